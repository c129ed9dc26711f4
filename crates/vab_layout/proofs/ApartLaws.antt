-- What the twins of an update keep, where it stands apart and where it doesn't.
use Rattle.std.proofs.Common.{ℕ, Bool, true, false, List, [], arith}
use Rattle.std.proofs.lemmas.List.Elements.{All-nil}
use Rattle.vab_layout.specs.declared.layout.Part.{Part}
use Rattle.vab_layout.specs.Slots.{twins_by, IsOwnPart, IsOwn}

-- none at all keep the rules of a slot's own
none_own : (slot : ℕ) → IsOwn slot []
none_own slot = record {
  each = All-nil (IsOwnPart slot);
  few = omega arith;
  once = λ i j d ij lj. absurd (omega arith);
}

pub apart_own : (slot : ℕ) (apart : Bool) (source : List Part)
    → IsOwn slot source
    → IsOwn slot (twins_by apart source)
apart_own slot true source own = none_own slot
apart_own slot false source own = own
