use Rattle.gain.proofs.curve_gain.Goals as goal

pub returns-in-None : goal.returns-in-None
returns-in-None c = rw (c.in-None.is, c.u32_to_f32-v.ensures)
