-- Frames between two events. Definitions only.
use Rattle.std.specs.Prelude.{ℕ, ◌-◌, List, ◌++◌, take, drop, ltb, eqb, Float, cond}
use Rattle.session.specs.Rules.{mark_ended}
use Rattle.session.specs.State.{view, relist, slot_list}
use Rattle.session.specs.declared.Session.{Session}
use Rattle.session.specs.declared.Slots.{Slots}
use Rattle.players.specs.Mix.{Sounds, Mixture, played_all}
use Rattle.players.specs.Mix.{Mixed}
use Rattle.gates.specs.Off.{reaped_both}
use Rattle.events.specs.Voice.{with_players}
use Rattle.events.specs.declared.Both.{Both}
use Rattle.block.specs.declared.Playing.{Playing}

-- a block under way: the session, the voice, the off times still to act, the frame up to which it has sounded; and both outputs
pub record Scene : Type 0 where
  pub playing : Playing
  pub left : List Float
  pub right : List Float

abbrev pub both_of : Playing → Both
both_of p = record { session = p.session; voice = p.voice }

abbrev pub with_both : Both → Playing → Playing
with_both b p = record { session = b.session; voice = b.voice; offs = p.offs; from = p.from }

-- xs with ys in the place of its elements from a to b
abbrev pub put_at : ℕ → ℕ → List Float → List Float → List Float
put_at a b xs ys = take a xs ++ (ys ++ drop (b - a) (drop a xs))

-- the players' records in these slots carry the mark of ended data
abbrev pub with_ended : ℕ → Slots → Session → Session
with_ended id ks s = cond (eqb ks.count 0) s (relist (mark_ended id (slot_list ks) (view s)) s)

-- every player has sounded up to b: ended data are marked, finished players leave
unfoldable pub after_part : ℕ → Playing → Mixed → Playing
after_part b p x =
    let s = with_ended p.voice.voice x.ended p.session in
    let y = reaped_both (record { session = s; voice = with_players x.players p.voice }) in
    record { session = y.session; voice = y.voice; offs = p.offs; from = b }

abbrev pub scene_after : ℕ → ℕ → Scene → Mixture → Scene
scene_after a b sc x = record {
  playing = after_part b sc.playing x.mixed;
  left = put_at a b sc.left x.left;
  right = put_at a b sc.right x.right;
}

abbrev pub part : ℕ → ℕ → List Float → List Float
part a b xs = take (b - a) (drop a xs)

abbrev pub mixture_of : Sounds → ℕ → ℕ → Scene → Mixture
mixture_of x a b sc = played_all x sc.playing.voice.players (part a b sc.left) (part a b sc.right)

-- the frames from where the block stands up to b; none of them, and nothing happens
unfoldable pub rendered_to : Sounds → ℕ → Scene → Scene
rendered_to x b sc = let a = sc.playing.from in cond (ltb a b) (scene_after a b sc (mixture_of x a b sc)) sc
