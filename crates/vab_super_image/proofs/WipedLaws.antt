-- The table that is left of an image of a `super`.
use Rattle.std.proofs.Common.{◌≡◌, ◌≢◌, ◌∙◌, ℕ, suc, ◌≤◌, Bool, true, false, cond}
use Rattle.std.proofs.Common.{List, [], ◌∷◌, length, refl, sym, ap, subst, arith}
use Rattle.std.specs.Prelude.{map, All, AllPairs}
use Rattle.std.proofs.lemmas.List.{length-map}
use Rattle.std.proofs.lemmas.List.Elements.{All-nil, All-map, All-weaker}
use Rattle.std.proofs.lemmas.List.Kept.{AllPairs-cons}
use Rattle.std.proofs.lemmas.Nat.{or_lt}
use Rattle.vab_names.specs.Names.{is_of_slot}
use Rattle.vab_tables.specs.declared.entries.Partition.{Partition}
use Rattle.vab_tables.specs.declared.table.Table.{Table}
use Rattle.vab_tables.specs.Rules.{IsExtent, IsPartition, KeepsRules}
use Rattle.vab_tables.specs.Spelling.{as_minor_2, table_size_of}
use Rattle.vab_tables.proofs.SpellingLaws.{keeps_as_minor_2}
use Rattle.vab_layout.specs.declared.layout.Part.{Part}
use Rattle.vab_layout.specs.Layout.{layout_of, part_of, blocks_of_partition, blocks_of_parts}
use Rattle.vab_layout.specs.Slots.{own_parts, IsOwn, IsOwnPart, IsDistinct}
use Rattle.vab_super_image.specs.SuperImage.{emptied, wiped, emptied_part, wiped_layout}

-- ---- its rules

-- two names stay apart
apart : (ps : List Partition)
    → AllPairs (λ (p q : Partition). p.name ≢ q.name) ps
    → AllPairs (λ (p q : Partition). p.name ≢ q.name) (map emptied ps)
apart [] h = λ i j d lt le. absurd (omega (arith, le))
apart (p ∷ ps) h =
    let R : Partition → Partition → Type 0 = λ x y. x.name ≢ y.name in
    AllPairs-cons R (emptied p) (map emptied ps)
    (All-map (R (emptied p)) emptied ps
    (λ k d lt. h 0 (suc k) d (omega arith) (omega (arith, lt))))
    (apart ps (λ i j d lt le. h (suc i) (suc j) d (omega (arith, lt)) (omega (arith, le))))

pub keeps_wiped : (t : Table) → KeepsRules t → KeepsRules (wiped t)
unfolding wiped
keeps_wiped t rules =
    let two : KeepsRules (as_minor_2 t) = keeps_as_minor_2 t rules in
    let groups : ℕ = length t.groups in
    record {
      minor = omega arith;
      flags = or_lt 32 t.flags 1 rules.flags (omega arith);
      device = rules.device;
      one_device = rules.one_device;
      device_rule = rules.device_rule;
      groups = rules.groups;
      group_names = rules.group_names;
      extents = All-nil (IsExtent rules.device);
      partitions =
          All-map (IsPartition 2 0 groups) emptied t.partitions
          (All-weaker (IsPartition 2 (length t.extents) groups)
          (λ p. IsPartition 2 0 groups (emptied p))
          (λ p is. record {
            fits = record {
              name = is.fits.name;
              attributes = is.fits.attributes;
              first_extent = omega arith;
              extent_count = omega arith;
              group = is.fits.group;
            };
            attributes = is.attributes;
            extents_exist = omega arith;
            group_exists = is.group_exists;
          })
          t.partitions two.partitions);
      partition_names = apart t.partitions rules.partition_names;
    }

-- its text is no longer
pub wiped_smaller : (t : Table) → table_size_of (wiped t) ≤ table_size_of t
unfolding wiped
wiped_smaller t = omega (arith, length-map t.partitions emptied)

-- ---- as blocks

parts_of_wiped : (t : Table) (ps : List Partition)
    → map (part_of (wiped t)) (map emptied ps) ≡ map emptied_part (map (part_of t) ps)
unfolding wiped blocks_of_partition
parts_of_wiped t [] = refl
parts_of_wiped t (p ∷ ps) =
    ap (λ (rest : List Part). emptied_part (part_of t p) ∷ rest) (parts_of_wiped t ps)

pub layout_of_wiped : (t : Table) → layout_of (wiped t) ≡ wiped_layout (layout_of t)
unfolding layout_of wiped
layout_of_wiped t =
    ap (λ (ps : List Part). record (wiped_layout (layout_of t)) { parts = ps })
    (parts_of_wiped t t.partitions)

-- ---- a slot's own partitions

pub own_emptied : (slot : ℕ) (ps : List Part)
    → own_parts slot (map emptied_part ps) ≡ map emptied_part (own_parts slot ps)
own_emptied slot [] = refl
own_emptied slot (p ∷ ps) = either (is_of_slot slot p.name) (own_emptied slot ps)
  where
    either : (b : Bool)
        → own_parts slot (map emptied_part ps) ≡ map emptied_part (own_parts slot ps)
        → cond b (emptied_part p ∷ own_parts slot (map emptied_part ps))
        (own_parts slot (map emptied_part ps))
        ≡ map emptied_part (cond b (p ∷ own_parts slot ps) (own_parts slot ps))
    either true rest = ap (λ (ps : List Part). emptied_part p ∷ ps) rest
    either false rest = rest

no_blocks : (ps : List Part) → blocks_of_parts (map emptied_part ps) ≡ []
no_blocks [] = refl
no_blocks (p ∷ ps) = no_blocks ps

pub own_wiped : (slot : ℕ) (ps : List Part) → IsOwn slot ps → IsOwn slot (map emptied_part ps)
own_wiped slot ps own =
    let mine : List Part = own_parts slot ps in
    let same = own_emptied slot ps in
    record {
      each =
          subst (All (IsOwnPart slot)) (sym same)
          (All-map (IsOwnPart slot) emptied_part mine
          (All-weaker (IsOwnPart slot) (λ p. IsOwnPart slot (emptied_part p))
          (λ p is. record { base = is.base; size = omega arith; group = is.group })
          mine own.each));
      few =
          omega (
            arith,
            own.few,
            length-map mine emptied_part,
            ap (λ (l : List Part). length l) same,
          );
      once =
          subst IsDistinct (sym (ap blocks_of_parts same ∙ no_blocks mine))
          (λ i j d lt le. absurd (omega (arith, le)));
    }
