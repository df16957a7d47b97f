use Rattle.events.proofs.Split.{session-all}
use Rattle.events.proofs.start.start_sessions.Goals as goal

pub returns : goal.returns
returns c = let a = c.args in
    λ samples. session-all (record { words = a.k.words.now; samples = samples }) a.x.note a.x.cause _ a.b _ c.starts_of-starts.ensures _ c.start_many.ensures
