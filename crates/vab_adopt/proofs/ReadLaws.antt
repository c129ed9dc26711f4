-- What is adopted after the disk was read alone.
use Rattle.std.proofs.Common.{◌∙◌, ℕ, List, sym, ap, subst}
use Rattle.vab_disk.specs.declared.disk.Disk.{Ghosts}
use Rattle.vab_disk.specs.Disk.{Image, Outcome, Adds}
use Rattle.vab_disk.specs.Calls.{OnlyReads, IsAtRest, Touches}
use Rattle.vab_disk.proofs.Moments.{adds_on, adds_wider}
use Rattle.vab_disk.proofs.CallLaws.{touches_reads, touches_then}
use Rattle.vab_adopt.specs.Adopting.{IsOfAdopting, LeavesAdopting}

module _
    {D : Type 0} (g : Ghosts D) (slot : ℕ) (a b c : D)
    (t : g.is_modelled) (reads : OnlyReads g a b) where
  rested : IsAtRest g a → IsAtRest g b
  rested rest = λ s x may.
      rest s x ((reads.crash t).no_more s x may)
      ∙ sym (ap (λ (i : Image). i s) (reads.seen t))

  moved : (o : Outcome)
      → LeavesAdopting (g.told b) (g.size b) slot (g.seen b) o
      → LeavesAdopting (g.told a) (g.size a) slot (g.seen a) o
  moved o leaves =
      subst (λ (l : List ℕ). LeavesAdopting l (g.size a) slot (g.seen a) o) (reads.quiet.told t)
      (subst (λ (n : ℕ). LeavesAdopting (g.told b) n slot (g.seen a) o) reads.quiet.size
      (subst (λ (i : Image). LeavesAdopting (g.told b) (g.size b) slot i o) (reads.seen t) leaves))

  pub time_behind : IsAtRest g a
      → (IsAtRest g b
      → Adds g.moment g.outcomes b c (LeavesAdopting (g.told b) (g.size b) slot (g.seen b)))
      → Adds g.moment g.outcomes a c (LeavesAdopting (g.told a) (g.size a) slot (g.seen a))
  time_behind rest time =
      adds_on g.moment g.outcomes a b c
      (LeavesAdopting (g.told a) (g.size a) slot (g.seen a))
      (LeavesAdopting (g.told b) (g.size b) slot (g.seen b))
      (adds_wider g.moment g.outcomes a b _ _ (reads.time t) (λ o none. absurd none))
      (time (rested rest)) moved

  pub touches_behind : Touches g (IsOfAdopting slot (g.seen b)) b c
      → Touches g (IsOfAdopting slot (g.seen a)) a c
  touches_behind touched =
      touches_then g (IsOfAdopting slot (g.seen a)) a b c
      (touches_reads g (IsOfAdopting slot (g.seen a)) a b reads)
      (subst (λ (i : Image). Touches g (IsOfAdopting slot i) b c) (reads.seen t) touched)
