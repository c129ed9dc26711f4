-- Each test passes exactly where its rule is kept.
use Rattle.std.proofs.Common.{◌≡◌, ◌≢◌, ℕ, ◌+◌, ◌-◌, ◌/◌, ◌%◌, ◌<◌, Bool, true, false, ◌&&◌}
use Rattle.std.proofs.Common.{◌||◌, not, eqb, ltb, leb, List, [], ◌∷◌, ◌++◌, length, get_or, refl}
use Rattle.std.proofs.Common.{ap, ◌∙◌, ◌⊎◌, inl, inr, arith}
use Rattle.std.specs.Prelude.{bit_and, All}
use Rattle.std.specs.List.{list_any}
use Rattle.std.specs.Str.{bytes_eq}
use Rattle.std.proofs.lemmas.Bool.{and_parts, and_from, or_cases, or_left, or_right, leb-true}
use Rattle.std.proofs.lemmas.Bool.{ltb-true, eqb-true, le-leb, lt-ltb, eq-eqb, cases_Bool}
use Rattle.std.proofs.lemmas.Bool.{not-true, not_from_false, both_ways, false_from_ne_true}
use Rattle.std.proofs.lemmas.List.{length-append, get_or_at, get_or-append-add}
use Rattle.std.proofs.lemmas.List.Folds.{list_any_at, list_any_none}
use Rattle.std.proofs.lemmas.Slice.Eq.{bytes_eq-Decides}
use Rattle.vab_tables.specs.declared.entries.Partition.{Partition}
use Rattle.vab_tables.specs.declared.entries.Extent.{Extent}
use Rattle.vab_tables.specs.declared.entries.Group.{Group}
use Rattle.vab_tables.specs.declared.entries.BlockDevice.{BlockDevice}
use Rattle.vab_tables.specs.Entries.{FitsPartition, FitsExtent, FitsGroup, FitsDevice}
use Rattle.vab_tables.specs.Rules.{end_of, IsDevice, device_passes, is_shared, has_slot, IsGroup}
use Rattle.vab_tables.specs.Rules.{group_passes, IsExtent, extent_passes, attributes_of}
use Rattle.vab_tables.specs.Rules.{IsPartition, partition_passes, is_named}
use Rattle.vab_tables.specs.Reading.{group_joins, extent_joins, partition_joins}

-- ---- the block device

pub device_found : (d : BlockDevice) → FitsDevice d → device_passes d ≡ true → IsDevice d
unfolding device_passes
device_found d fits h =
    let a =
    and_parts (eqb d.flags 0 && eqb (d.first_logical_sector % 8) 0)
    (leb d.first_logical_sector (d.size / 512)) h in
    let b = and_parts (eqb d.flags 0) (eqb (d.first_logical_sector % 8) 0) a.0 in
    record {
      fits = fits;
      flags = eqb-true _ _ b.0;
      aligned = eqb-true _ _ b.1;
      within =
          leb-true _ _ a.1;
    }

pub device_only : (d : BlockDevice) → IsDevice d → device_passes d ≡ true
unfolding device_passes
device_only d r =
    and_from _ _ (and_from _ _ (eq-eqb _ _ r.flags) (eq-eqb _ _ r.aligned)) (le-leb _ _ r.within)

-- ---- groups

group_found : (g : Group) → FitsGroup g → group_passes g ≡ true → IsGroup g
unfolding group_passes
group_found g fits h =
    let shared = is_shared g.name in
    let a =
    and_parts ((shared || has_slot g.name) && eqb g.flags 0) (not shared
    || eqb g.maximum_size 0) h in
    let b = and_parts (shared || has_slot g.name) (eqb g.flags 0) a.0 in
    let free : shared ≡ true
    → g.maximum_size ≡ 0 = λ s. elim (or_cases (not shared) (eqb g.maximum_size 0) a.1) [
      | inl n ↦ absurd (both_ways shared (not-true shared n) s)
      | inr z ↦ eqb-true _ _ z
    ] in
    record { fits = fits; named = b.0; flags = eqb-true _ _ b.1; unlimited = free }

group_only : (g : Group) → IsGroup g → group_passes g ≡ true
unfolding group_passes
group_only g r =
    let shared = is_shared g.name in
    let free : (not shared || eqb g.maximum_size 0) ≡ true = elim (cases_Bool shared) [
      | inl s ↦ or_right (not shared) (eqb g.maximum_size 0) (eq-eqb _ _ (r.unlimited s))
      | inr n ↦ or_left (not shared) (eqb g.maximum_size 0) (not_from_false shared n)
    ] in
    and_from _ _ (and_from _ _ r.named (eq-eqb _ _ r.flags)) free

-- ---- extents

extent_found : (d : BlockDevice) (e : Extent) → FitsExtent e → extent_passes d e ≡ true
    → IsExtent d e
unfolding extent_passes
extent_found d e fits h =
    let t0 = eqb e.target_type 0 in
    let t1 = eqb e.target_source 0 in
    let t2 = ltb 0 e.sectors in
    let t3 = eqb (e.sectors % 8) 0 in
    let t4 = eqb (e.first_sector % 8) 0 in
    let t5 = leb d.first_logical_sector e.first_sector in
    let t6 = leb (e.first_sector + e.sectors) (end_of d) in
    let a = and_parts (t0 && t1 && t2 && t3 && t4 && t5) t6 h in
    let b = and_parts (t0 && t1 && t2 && t3 && t4) t5 a.0 in
    let c = and_parts (t0 && t1 && t2 && t3) t4 b.0 in
    let f = and_parts (t0 && t1 && t2) t3 c.0 in
    let g = and_parts (t0 && t1) t2 f.0 in
    let i = and_parts t0 t1 g.0 in
    record {
      fits = fits;
      target_type = eqb-true _ _ i.0;
      target_source = eqb-true _ _ i.1;
      some = ltb-true _ _ g.1;
      whole = eqb-true _ _ f.1;
      aligned = eqb-true _ _ c.1;
      above = leb-true _ _ b.1;
      below = leb-true _ _ a.1;
    }

extent_only : (d : BlockDevice) (e : Extent) → IsExtent d e → extent_passes d e ≡ true
unfolding extent_passes
extent_only d e r =
    and_from _ _
    (and_from _ _
    (and_from _ _
    (and_from _ _
    (and_from _ _ (and_from _ _ (eq-eqb _ _ r.target_type) (eq-eqb _ _ r.target_source))
    (lt-ltb _ _ r.some)) (eq-eqb _ _ r.whole)) (eq-eqb _ _ r.aligned)) (le-leb _ _ r.above))
    (le-leb _ _ r.below)

-- ---- partitions

partition_found : (minor extents groups : ℕ) (p : Partition) → FitsPartition p
    → partition_passes minor extents groups p ≡ true → IsPartition minor extents groups p
unfolding partition_passes
partition_found minor extents groups p fits h =
    let t0 = eqb (bit_and p.attributes (attributes_of minor)) p.attributes in
    let t1 = leb (p.first_extent + p.extent_count) extents in
    let a = and_parts (t0 && t1) (ltb p.group groups) h in
    let b = and_parts t0 t1 a.0 in
    record {
      fits = fits;
      attributes = eqb-true _ _ b.0;
      extents_exist = leb-true _ _ b.1;
      group_exists = ltb-true _ _ a.1;
    }

partition_only : (minor extents groups : ℕ) (p : Partition) → IsPartition minor extents groups p
    → partition_passes minor extents groups p ≡ true
unfolding partition_passes
partition_only minor extents groups p r =
    let first = and_from _ _ (eq-eqb _ _ r.attributes) (le-leb _ _ r.extents_exist) in
    and_from _ _ first (lt-ltb _ _ r.group_exists)

-- ---- names that differ

-- no entry of these has the name
named_none : {E : Type 0} (name : E → List ℕ) (earlier : List E) (text : List ℕ)
    → is_named name earlier text ≡ false → All (λ x. name x ≢ text) earlier
unfolding is_named
named_none {E} name earlier text h =
    λ (k : ℕ) (d : E) lt e. both_ways (list_any (λ x. bytes_eq (name x) text) earlier) h
    (list_any_at (λ x. bytes_eq (name x) text) earlier k d lt
    ((bytes_eq-Decides (name (get_or earlier k d)) text).1 e))

none_named : {E : Type 0} (name : E → List ℕ) (earlier : List E) (text : List ℕ)
    → All (λ x. name x ≢ text) earlier → is_named name earlier text ≡ false
unfolding is_named
none_named {E} name earlier text h =
    list_any_none (λ x. bytes_eq (name x) text) earlier
    (λ (k : ℕ) (d : E) lt. false_from_ne_true _
    (λ t. h k d lt ((bytes_eq-Decides (name (get_or earlier k d)) text).0 t)))

-- ---- an entry beside those before it

-- a test of an entry beside earlier ones passes exactly where the entry keeps a rule and differs
-- from each of them
pub record IsJudged {E : Type 0} (passes : List E → E → Bool) (Fits Keeps : E → Type 0) (Apart : E
    → E → Type 0) : Type 0 where
  pub found : (earlier : List E) (e : E) → Fits e → passes earlier e ≡ true
      → Keeps e × ((k : ℕ) (d : E) → k < length earlier → Apart (get_or earlier k d) e)
  pub only : (earlier : List E) (e : E) → Keeps e
      → ((k : ℕ) (d : E) → k < length earlier → Apart (get_or earlier k d) e)
      → passes earlier e ≡ true
  pub fits : (e : E) → Keeps e → Fits e

pub groups_judged : IsJudged group_joins FitsGroup IsGroup (λ a b. a.name ≢ b.name)
groups_judged = record {
  found = λ earlier g fits h. let a =
      and_parts (group_passes g) (not (is_named (λ e. e.name) earlier g.name)) h in
      (group_found g fits a.0, named_none (λ (e : Group). e.name) earlier g.name (not-true _ a.1));
  only = λ earlier g keeps apart. and_from _ _ (group_only g keeps)
      (not_from_false _ (none_named (λ (e : Group). e.name) earlier g.name apart));
  fits = λ g keeps. keeps.fits;
}

pub extents_judged : (d : BlockDevice)
    → IsJudged (extent_joins d) FitsExtent (IsExtent d) (λ _ _. Unit {0})
extents_judged d = record {
  found = λ earlier e fits h. (extent_found d e fits h, λ _ _ _. tt);
  only = λ earlier e keeps _. extent_only d e keeps;
  fits = λ e keeps. keeps.fits;
}

pub partitions_judged : (minor extents groups : ℕ)
    → IsJudged (partition_joins minor extents groups) FitsPartition
    (IsPartition minor extents groups) (λ a b. a.name ≢ b.name)
partitions_judged minor extents groups = record {
  found = λ earlier p fits h. let a =
      and_parts (partition_passes minor extents groups p)
      (not (is_named (λ e. e.name) earlier p.name)) h in (
        partition_found minor extents groups p fits a.0,
        named_none (λ (e : Partition). e.name)
            earlier p.name (not-true _ a.1),
      );
  only = λ earlier p keeps apart. and_from _ _ (partition_only minor extents groups p keeps)
      (not_from_false _ (none_named (λ (e : Partition). e.name) earlier p.name apart));
  fits = λ p keeps. keeps.fits;
}

-- ---- names of groups

-- a name that ends in the suffix of a slot, behind at least one byte
pub has_slot-suffix : (base : List ℕ) (letter : ℕ) → 0 < length base → (letter ≡ 97) ⊎ (letter ≡ 98)
    → has_slot (base ++ 95 ∷ letter ∷ []) ≡ true
unfolding has_slot
has_slot-suffix base letter some either =
    let name : List ℕ = base ++ 95 ∷ letter ∷ [] in
    let len : length name ≡ length base + 2 = length-append base (95 ∷ letter ∷ []) in
    let at1 : length name - 2 ≡ length base = omega (arith, len) in
    let at2 : length name - 1 ≡ length base + 1 = omega (arith, len) in
    let line : get_or name (length name - 2) 0 ≡ 95 = ap (λ (k : ℕ). get_or name k 0) at1
    ∙ get_or_at base 95 (letter ∷ []) 0 (length base) refl in
    let last : get_or name (length name - 1) 0 ≡ letter = ap (λ (k : ℕ). get_or name k 0) at2
    ∙ get_or-append-add base (95 ∷ letter ∷ []) 1 0 in
    let slot : (eqb (get_or name (length name - 1) 0) 97
    || eqb (get_or name (length name - 1) 0) 98) ≡ true = elim either [
      | inl a ↦ or_left _ _ (eq-eqb _ _ (last ∙ a))
      | inr b ↦ or_right _ _ (eq-eqb _ _ (last ∙ b))
    ] in
    and_from _ _ (and_from _ _ (le-leb _ _ (omega (arith, len, some))) (eq-eqb _ _ line)) slot
