-- What the order of names means.
use Rattle.std.specs.Prelude.{ℕ, List}
use Rattle.std.specs.List.Sorted.{IsPermutation, IsSortedByKey}
use Rattle.std.specs.Ordering.{nat_cmp}
use Rattle.std.specs.Cmp.Lexicographic.{slice_cmp}
use Rattle.vab_status.specs.Page.{by_name}

-- By their names they are the same, and in the order of the names' bytes.
pub record AreOrdered {A : Type 0} (name_of : A → List ℕ) (xs : List A) : Type 0 where
  pub same : IsPermutation xs (by_name name_of xs)
  pub sorted : IsSortedByKey name_of (slice_cmp nat_cmp) (by_name name_of xs)
