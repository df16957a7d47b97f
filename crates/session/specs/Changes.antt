-- The ways in which a whole list of records may change: what the laws over the session's list speak of.
use Rattle.std.specs.Prelude.{◌≡◌, ℕ, false, List, [], ◌∷◌, None}
use Rattle.session.specs.declared.PlayerRecord.{PlayerRecord}
use Rattle.session.specs.Records.{marked}

-- as many, in the same order, each element to its own as R says
pub data Along {A : Type 0} (R : A → A → Type 0) : List A → List A → Type 0 where
  end : Along R [] []
  one : {x y : A} {xs ys : List A} → R x y → Along R xs ys → Along R (x ∷ xs) (y ∷ ys)

-- as it was; or, where it had no mark, with the mark and the off time `at`
pub data Marked (at : ℕ) : PlayerRecord → PlayerRecord → Type 0 where
  unchanged : {r : PlayerRecord} → Marked at r r
  newly : {r : PlayerRecord} → r.offed ≡ false → Marked at r (marked at r)

-- as it was; or, where it is the voice's own, changed by g
pub data OwnChange (v : ℕ) (g : PlayerRecord → PlayerRecord) : PlayerRecord → PlayerRecord → Type 0 where
  untouched : {r : PlayerRecord} → OwnChange v g r r
  turned : {r : PlayerRecord} → r.voice ≡ v → OwnChange v g r (g r)

-- the record without mark and off time: what no marking changes
abbrev pub unmarked : PlayerRecord → PlayerRecord
unmarked r = record r { offed = false; off_at = None }
