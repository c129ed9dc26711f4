-- Stores whose sectors stay are read the same.
use Rattle.std.proofs.Common.{◌≡◌, ◌∙◌, inl, inr, ℕ, List, [], ◌∷◌, length, Result, Ok, Err, refl}
use Rattle.std.proofs.Common.{sym, ap, subst}
use Rattle.std.specs.Prelude.{Bool, true, false, ◌&&◌, map, Option, Some, None}
use Rattle.std.proofs.lemmas.Bool.{cases_Bool}
use Rattle.vab_disk.specs.Disk.{Image}
use Rattle.vab_exceptions.specs.declared.area.Exception.{Exception}
use Rattle.vab_store.specs.declared.fault.StoreFault.{StoreFault}
use Rattle.vab_space.specs.declared.Chunk.{Chunk}
use Rattle.vab_space.specs.declared.Chunk.TheVariants.{One, Two, Four}
use Rattle.vab_store.specs.Clean.{ends_clean}
use Rattle.vab_store.specs.Reached.{IsReached}
use Rattle.vab_store.specs.Scan.{scan_of}
use Rattle.vab_store.proofs.CleanLaws.{clean_kept}
use Rattle.vab_store.proofs.ReachedLaws.{scan_kept}
use Rattle.vab_statuses.specs.Statuses.{IsOfStatuses}
use Rattle.vab_statuses.specs.Statuses.{statuses_under}
use Rattle.vab_statuses.proofs.UnderLaws.{under_same}
use Rattle.vab_device.specs.declared.fault.StartFault.{StartFault}
use Rattle.vab_device.specs.declared.fault.StartFault.TheVariants.{BadStore}
use Rattle.vab_device.specs.declared.device.Part.{Part}
use Rattle.vab_device.specs.declared.device.PartImage.{PartImage}
use Rattle.vab_device.specs.declared.device.PartImage.TheVariants.{Kept, Declared, Written}
use Rattle.vab_device.specs.Checks.{◌>>=◌, unless}
use Rattle.vab_device.specs.Mounted.{written_sectors, planned_on, entry_on, entries_on}
use Rattle.vab_device.specs.Mounted.{blocks_there, blocks_over, sectors_read, overlay_on}
use Rattle.vab_device.specs.Reading.{version_at, statuses_read, statuses_at}
use Rattle.vab_device.specs.Reading.{IsOfScan, IsOfStores}
use Rattle.vab_device.specs.Reading.{IsOfWritten, IsOfPlanned, IsOfPlan, IsOfOverlay}
use Rattle.vab_device.specs.Stores.{Wanted, Scanned, is_long, scan_read, clean_by, is_one, scan_by}
use Rattle.vab_device.specs.Stores.{scan_at, scans_in}
use Rattle.vab_device.proofs.CheckLaws.{bound}
use Rattle.vab_device.proofs.BlockLaws.{bytes_same}

-- ---- the statuses

pub statuses_kept : (b : Bool) (old new : Image)
    → version_at new ≡ version_at old
    → (b ≡ true → (s : ℕ) → IsOfStatuses s → new s ≡ old s)
    → statuses_at b new ≡ statuses_at b old
unfolding statuses_at
statuses_kept false old new version same = refl
statuses_kept true old new version same =
    ap (λ v. statuses_read (statuses_under v new)) version
    ∙ ap statuses_read (under_same (version_at old) old new (same refl))

-- ---- a store

-- a list of exceptions that was taken is one
pub scan_taken : (w : Wanted) (x : Result (List Exception) StoreFault) (s : Scanned)
    → scan_read w x ≡ Ok s
    → (es : List Exception) × (x ≡ Ok es) × (length es ≡ length s.exceptions)
scan_taken w (Ok es) s is = elim (cases_Bool (is_long w.fewer w.count (length es))) [
  | inl long ↦
      let taken : Ok (record { name = w.name; chunk = w.chunk; exceptions = es }) ≡ Ok s =
      (rw long at is) in
      let same : (let r : Scanned =
      record { name = w.name; chunk = w.chunk; exceptions = es } in r ≡ s) = cc in
      (es, refl, ap (λ (r : Scanned). length r.exceptions) same)
  | inr short ↦
      let none : (let r : Result Scanned StartFault = Err (BadStore w.name) in r ≡ Ok s) =
      (rw short at is) in
      absurd cc
]
scan_taken w (Err fault) s is =
    absurd (let bad : (let r : Result Scanned StartFault = Err (BadStore w.name) in r ≡ Ok s) =
    is in cc)

-- one that ends clean, where that is asked, is one as well
pub clean_taken : (clean : Bool) (name store : List ℕ) (image : Image)
    (x : Result Scanned StartFault) (s : Scanned)
    → clean_by clean name store image x ≡ Ok s
    → x ≡ Ok s
clean_taken false name store image x s is = is
clean_taken true name store image (Err fault) s is = is
clean_taken true name store image (Ok y) s is =
    elim (cases_Bool (ends_clean store (length y.exceptions) image)) [
      | inl clean ↦ (rw clean at is)
      | inr not_clean ↦
          let none : (let r : Result Scanned StartFault = Err (BadStore name) in r ≡ Ok s) =
          (rw not_clean at is) in
          absurd cc
    ]

-- where the list's page ends alike, it is asked alike
clean_same : (clean : Bool) (name store : List ℕ) (old new : Image)
    (x : Result Scanned StartFault) (s : Scanned)
    → x ≡ Ok s
    → ends_clean store (length s.exceptions) new ≡ ends_clean store (length s.exceptions) old
    → clean_by clean name store new x ≡ clean_by clean name store old x
clean_same false name store old new x s is same = refl
clean_same true name store old new x s is same =
    ap (clean_by true name store new) is
    ∙ ap (λ (b : Bool). unless b (BadStore name) (Ok s)) same
    ∙ sym (ap (clean_by true name store old) is)

by_chunk : (asked : Bool) (k : Chunk) (name store : List ℕ) (old new : Image)
    (x : Result Scanned StartFault) (s : Scanned)
    → x ≡ Ok s
    → ((a : ℕ) → IsReached k store (length s.exceptions) a → new a ≡ old a)
    → clean_by (asked && is_one k) name store new x ≡ clean_by (asked && is_one k) name store old x
by_chunk false k name store old new x s is same = refl
by_chunk true One name store old new x s is same =
    clean_same true name store old new x s is
    (clean_kept store (length s.exceptions) old new same)
by_chunk true Two name store old new x s is same = refl
by_chunk true Four name store old new x s is same = refl

scan_by_kept : (w : Wanted) (store : Option (List ℕ)) (old new : Image) (x : Scanned)
    → ((s : ℕ) → IsOfScan w.chunk store (length x.exceptions) s → new s ≡ old s)
    → scan_by w store old ≡ Ok x
    → scan_by w store new ≡ scan_by w store old
scan_by_kept w None old new x same is = refl
scan_by_kept w (Some store) old new x same is =
    let read = scan_read w (scan_of w.chunk store (length w.base) old) in
    let clean : Bool = w.clean && is_one w.chunk in
    let was = clean_taken clean w.name store old read x is in
    let taken = scan_taken w (scan_of w.chunk store (length w.base) old) x was in
    let new_is = scan_kept w.chunk store (length x.exceptions) old new same (length w.base)
    taken.0 taken.2 taken.1 in
    ap (λ y. clean_by clean w.name store new (scan_read w y)) (new_is ∙ sym taken.1)
    ∙ by_chunk w.clean w.chunk w.name store old new read x was same

store_kept : (w : Wanted) (old new : Image) (x : Scanned)
    → ((s : ℕ) → IsOfScan w.chunk w.store (length x.exceptions) s → new s ≡ old s)
    → scan_at w old ≡ Ok x
    → scan_at w new ≡ scan_at w old
unfolding scan_at
store_kept w old new x same is = scan_by_kept w w.store old new x same is

pub stores_kept : (ws : List (Result Wanted StartFault)) (old new : Image) (xs : List Scanned)
    → ((s : ℕ) → IsOfStores ws xs s → new s ≡ old s)
    → scans_in ws old ≡ Ok xs
    → scans_in ws new ≡ scans_in ws old
stores_kept [] old new xs same is = refl
stores_kept (Err fault ∷ ws) old new xs same is = refl
stores_kept (Ok w ∷ ws) old new xs same is =
    let first = bound (scan_at w old) (λ x. scans_in ws old >>= λ rest. Ok (x ∷ rest)) xs is in
    let rest = bound (scans_in ws old) (λ rest. Ok (first.0 ∷ rest)) xs first.2 in
    let whole : Ok (first.0 ∷ rest.0) ≡ Ok xs = rest.2 in
    let e : first.0 ∷ rest.0 ≡ xs = cc in
    let stays : (s : ℕ) → IsOfStores (Ok w ∷ ws) (first.0 ∷ rest.0) s → new s ≡ old s =
    λ s there. same s (subst (λ (ys : List Scanned). IsOfStores (Ok w ∷ ws) ys s) e there) in
    let here = store_kept w old new first.0 (λ s there. stays s (inl there)) first.1 in
    let others = stores_kept ws old new rest.0 (λ s there. stays s (inr there)) rest.1 in
    (λ i. here i >>= λ x. others i >>= λ rest. Ok (x ∷ rest))

-- ---- the partitions that are planned

image_kept : (p : Part) (image : PartImage) (old new : Image)
    → ((s : ℕ) → IsOfWritten p image s → new s ≡ old s)
    → planned_on new p image ≡ planned_on old p image
image_kept p Kept old new same = refl
image_kept p Declared old new same = refl
image_kept p (Written k es) old new same =
    rw (bytes_same old new (written_sectors p k es) same) refl

planned_kept : (plan : List Part) (old new : Image)
    → ((s : ℕ) → IsOfPlanned plan s → new s ≡ old s)
    → map (entry_on new) plan ≡ map (entry_on old) plan
planned_kept [] old new same = refl
planned_kept (p ∷ ps) old new same =
    let image = image_kept p p.image old new (λ s is. same s (inl is)) in
    let here : entry_on new p ≡ entry_on old p = rw image refl in
    let rest = planned_kept ps old new (λ s is. same s (inr is)) in
    (λ i. here i ∷ rest i)

-- the one that is overlaid
pub overlay_kept : (overlay : Option Part) (old new : Image)
    → ((s : ℕ) → IsOfOverlay overlay s → new s ≡ old s)
    → overlay_on new overlay ≡ overlay_on old overlay
overlay_kept None old new same = refl
overlay_kept (Some p) old new same =
    ap (λ (bytes : List ℕ). Some (record {
      name = p.name;
      store = length (blocks_there p.store);
      blocks = blocks_over p.image;
      bytes = bytes;
    }))
    (bytes_same old new (sectors_read p) same)

pub plan_kept : (plan : Option (List Part)) (old new : Image)
    → ((s : ℕ) → IsOfPlan plan s → new s ≡ old s)
    → entries_on new plan ≡ entries_on old plan
plan_kept None old new same = refl
plan_kept (Some plan) old new same = ap Some (planned_kept plan old new same)
