-- Which of the places holds a live voice. Definitions only.
use Rattle.std.specs.Prelude.{ℕ, List, Option, option_map, position, nat_eq}
use Rattle.std.specs.Option.{option_eq}
use Rattle.events.specs.declared.SampleVoice.{SampleVoice}

-- the first place whose voice has this id, or the first free one for none
abbrev pub place_of : Option ℕ → List (Option SampleVoice) → Option ℕ
place_of id voices = position (λ v. option_eq nat_eq (option_map (λ x. x.voice) v) id) voices
