-- A run of frames: one frame more, and where the envelope is done. Assumes nothing.
use mathlib.Core.Path.{◌≡◌, sym, ap, ◌∙◌}
use mathlib.Core.Bool.{Bool, true, false}
use mathlib.Core.List.{List}
use Prim.Native.Nat.{ℕ, zero, suc, ◌<◌, ◌+◌, ◌-◌}
use native.Mathlib.Nat.{add-zero, add-suc}
use native.Mathlib.Numerals.{add-one}
use native.Mathlib.Omega.{arith}
use lib.Ieee.{Float}
use Rattle.filter.specs.declared.FilterShape.{FilterShape}
use Rattle.filter.specs.Filter.{Paired, chained}
use Rattle.player.specs.declared.Hot.{Hot}
use Rattle.player.specs.declared.Cold.{Cold}
use Rattle.player.specs.declared.Player.{Player}
use Rattle.segments.specs.declared.segment.Frame.{Frame}
use Rattle.segments.specs.declared.segment.Turn.{Turn}
use Rattle.segments.specs.declared.segment.Turn.TheVariants.{Over, Sounds}
use Rattle.segments.specs.Source.{Sound}
use Rattle.segments.specs.Segment.{Run, After, Rendered, frame_next, run_one, run_for, mixed, after_run, went_off, with_hot, played_of}

-- a frame leaves what is done as it is
still : (c : Cold) (fs : List FilterShape) (s : Sound) (j : ℕ) (x : Run) → x.done ≡ true → run_one c fs s j x ≡ x
unfolding run_one
still c fs s j x p = rw p

module _ (c : Cold) (fs : List FilterShape) (s : Sound) (x : Run) where
  stays : (k d : ℕ) → (run_for c fs s k x).done ≡ true → run_for c fs s (k + d) x ≡ run_for c fs s k x
  unfolding run_for
  stays k zero p = rw add-zero
  stays k (suc d) p =
      rw add-suc
      (still c fs s (k + d) (run_for c fs s (k + d) x) (ap (λ (y : Run). y.done) (stays k d p) ∙ p) ∙ stays k d p)

  module _ (R : Run) (y : Turn) (j : ℕ) (live : R.done ≡ false) (so_far : R ≡ run_for c fs s j x) (is : y ≡ frame_next c s R.hot) where
    pub more : (f : Frame) (v : Paired) → y ≡ Sounds f → v ≡ chained fs c.stereo c.n_filters (record { l = f.heard.l; r = f.heard.r; states = R.states }) → mixed c j R f v ≡ run_for c fs s (j + 1) x
    unfolding run_for run_one
    more f v d e = rw (add-one, ← so_far, live, ← is, d, ← e)

    last : (h : Hot) → y ≡ Over h → run_for c fs s (suc j) x ≡ record { hot = h; states = R.states; left = R.left; right = R.right; done = true }
    unfolding run_for run_one
    last h d = rw (← so_far, live, ← is, d)

    pub ended : (h : Hot) (n : ℕ) → j < n → y ≡ Over h → ◌≡◌ {A = After} (record { hot = h; states = R.states; left = R.left; right = R.right }) (after_run (run_for c fs s n x))
    ended h n p d =
        let m : n ≡ suc j + (n - suc j) = omega arith in
        let e : run_for c fs s n x ≡ record { hot = h; states = R.states; left = R.left; right = R.right; done = true } = rw m (stays (suc j) (n - suc j) (ap (λ (z : Run). z.done) (last h d)) ∙ last h d) in
        sym (ap after_run e)

-- a player's segment by its run
pub of-run : (p : Player) (h : Hot) (z l r : List Float) (e : Bool) (x : After) → e ≡ went_off p.hot.offed h.offed → ◌≡◌ {A = After} (record { hot = h; states = z; left = l; right = r }) x
    → ◌≡◌ {A = Rendered} (record { played = record { player = with_hot h z p; ended = e }; left = l; right = r }) (played_of p x)
of-run p h z l r e x q a = rw (q, ← a)
