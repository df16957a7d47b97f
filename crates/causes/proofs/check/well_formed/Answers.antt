use Rattle.causes.proofs.Formed.{ill-formed, well}
use Rattle.causes.proofs.check.well_formed.Goals as goal

pub returns-then-session_fits : goal.returns-then-session_fits
returns-then-session_fits c = well c.args.s.now c.args.v.now _ c.session_fits.ensures _ c.if-session_fits.true c.voice_fits.ensures

pub returns-else-session_fits : goal.returns-else-session_fits
returns-else-session_fits c = ill-formed c.args.s.now c.args.v.now _ c.session_fits.ensures c.if-session_fits.false
