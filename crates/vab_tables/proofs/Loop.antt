-- The steps of a loop that reads entries.
use Rattle.std.proofs.Common.{◌≡◌, ℕ, suc, ◌+◌, ◌-◌, ◌*◌, ◌<◌, ◌≤◌, Bool, List, [], ◌∷◌, ◌++◌}
use Rattle.std.proofs.Common.{length, take, drop, Option, Result, Ok, Err, refl, sym, ◌∙◌, arith}
use Rattle.vab_bytes.specs.Number.{field}
use Rattle.vab_tables.specs.declared.fault.EntryKind.{EntryKind}
use Rattle.vab_tables.specs.declared.fault.TableFault.{TableFault}
use Rattle.vab_tables.specs.declared.fault.TableFault.TheVariants as faults
use Rattle.vab_tables.specs.Reading.{Fails, entry_or, entries_in}

-- the entry that is read next, behind those read so far
abbrev pub next_entry : {E : Type 0} → EntryKind → ℕ → (List ℕ → Option E) → (List E → E → Bool)
    → List ℕ → List E → Result E TableFault
next_entry kind size read passes area earlier =
    entry_or (faults.BadEntry kind (length earlier)) (passes earlier)
    (read (field area (length earlier * size) size))

pub steps : {E : Type 0} (kind : EntryKind) (size : ℕ) (read : List ℕ → Option E) (passes : List E
    → E → Bool) (area : List ℕ) (n i : ℕ) (earlier : List E) (e : E)
    (total : Result (List E) TableFault)
    → i < n → next_entry kind size read passes area earlier ≡ Ok e
    → entries_in kind size read passes area (n - i) earlier ≡ total
    → entries_in kind size read passes area (n - (i + 1)) (earlier ++ e ∷ []) ≡ total
unfolding entries_in
steps kind size read passes area n i earlier e total lt h so_far =
    let k : n - i ≡ suc (n - (i + 1)) = omega arith in
    let one : entries_in kind size read passes area (n - i) earlier
    ≡ entries_in kind size read passes area (n - (i + 1)) (earlier ++ e ∷ []) =
    rw (k, h) refl in
    sym one ∙ so_far

pub ends : {E : Type 0} (kind : EntryKind) (size : ℕ) (read : List ℕ → Option E) (passes : List E
    → E → Bool) (area : List ℕ) (n i : ℕ) (earlier : List E) (fault : TableFault)
    (total : Result (List E) TableFault)
    → i < n → Fails fault (next_entry kind size read passes area earlier)
    → entries_in kind size read passes area (n - i) earlier ≡ total → Fails fault total
unfolding entries_in
ends kind size read passes area n i earlier faults.NoMemory total lt h so_far = tt
ends kind size read passes area n i earlier fault total lt h so_far =
    let k : n - i ≡ suc (n - (i + 1)) = omega arith in
    let one : entries_in kind size read passes area (n - i) earlier ≡ Err fault = rw (k, h) refl in
    sym so_far ∙ one

pub is_done : {E : Type 0} (kind : EntryKind) (size : ℕ) (read : List ℕ → Option E) (passes : List E
    → E → Bool) (area : List ℕ) (n i : ℕ) (earlier : List E) (total : Result (List E) TableFault)
    → n ≤ i → entries_in kind size read passes area (n - i) earlier ≡ total → total ≡ Ok earlier
unfolding entries_in
is_done kind size read passes area n i earlier total le so_far =
    let k : n - i ≡ 0 = omega arith in
    let one : entries_in kind size read passes area (n - i) earlier ≡ Ok earlier = rw k refl in
    sym so_far ∙ one

-- what a reader of one entry judged, as the entry that is read next
pub next_is : {E : Type 0} (kind : EntryKind) (size : ℕ) (read : List ℕ → Option E) (passes : List E
    → E → Bool) (area : List ℕ) (earlier : List E) (j : ℕ) (p : E → Bool) (bytes : List ℕ)
    → j ≡ length earlier → p ≡ passes earlier → bytes ≡ field area (length earlier * size) size
    → entry_or (faults.BadEntry kind j) p (read bytes)
    ≡ next_entry kind size read passes area earlier
next_is kind size read passes area earlier j p bytes e1 e2 e3 = rw (e3, e2, e1) refl

-- the bytes of that entry
pub piece_is : (area : List ℕ) (i n s r size : ℕ) → s ≡ size → r ≡ size → i ≡ n
    → take (i * s + r - i * s) (drop (i * s) area) ≡ field area (n * size) size
piece_is area i n s r size es er e =
    let k : i * s + r - i * s ≡ r = omega arith in
    rw (k, es, er, e) refl
