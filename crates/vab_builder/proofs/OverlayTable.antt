-- A slot's table with a store over one of its partitions: it keeps the rules, and it is the slot's
-- table without stores where the store is left out.
use Rattle.std.proofs.Common.{◌≡◌, ◌≢◌, ℕ, ◌+◌, ◌≤◌, ◌<◌, Bool, true, false, List, [], ◌∷◌, ◌++◌}
use Rattle.std.proofs.Common.{length, map, take, get_or, sum_by, Option, Some, None, refl, sym, ap}
use Rattle.std.proofs.Common.{subst, ◌∙◌, inl, inr, arith, length-append}
use Rattle.std.specs.Prelude.{All, Contains, sum}
use Rattle.std.specs.List.{filter}
use Rattle.std.specs.Str.{bytes_eq}
use Rattle.std.proofs.lemmas.Bool.{cases_Bool, or_cases, both_ways, false_from_ne_true}
use Rattle.std.proofs.lemmas.List.{append-nil, length-take}
use Rattle.std.proofs.lemmas.List.Elements.{All-cons, All-contains, All-push, All-head}
use Rattle.std.proofs.lemmas.List.Elements.{All-tail, filter-append, Contains-append_left}
use Rattle.std.proofs.lemmas.List.Elements.{Contains-append_right}
use Rattle.std.proofs.lemmas.List.Quantifiers.{all_pairs_push}
use Rattle.std.proofs.lemmas.List.Concat.{length-flat_map}
use Rattle.std.proofs.lemmas.List.Sums.{sum_by_push, sum-map}
use Rattle.vab_bytes.specs.Name.{IsName}
use Rattle.vab_names.specs.Names.{is_of_slot, base_of, store_of, store_group_name, most_partitions}
use Rattle.vab_names.proofs.NameLaws.{store_is_name}
use Rattle.vab_names.proofs.NameCases.{same_name, eq_name, ne_name, full_name, full_short}
use Rattle.vab_names.proofs.NameCases.{store_of_same}
use Rattle.vab_tables.specs.declared.entries.Group.{Group}
use Rattle.vab_tables.specs.Rules.{cap_of, IsGroup}
use Rattle.vab_blocks.specs.Runs.{runs_of}
use Rattle.vab_blocks.proofs.BlockLaws.{is_free, free_ascends}
use Rattle.vab_blocks.proofs.Contained.{first, later, all_from, in_map, some_piece, of_filter}
use Rattle.vab_blocks.proofs.Contained.{of_take}
use Rattle.vab_layout.specs.declared.layout.Part.{Part}
use Rattle.vab_layout.specs.declared.layout.Layout.{Layout}
use Rattle.vab_layout.specs.Layout.{blocks_of_parts}
use Rattle.vab_layout.specs.Rules.{IsPart, IsLayout}
use Rattle.vab_layout.specs.Slots.{own_parts, groups_of_slot, IsDistinct, IsOwn, IsOwnPart}
use Rattle.vab_layout.specs.Plain.{default_group, own_groups, plain}
use Rattle.vab_layout.specs.Overlay.{Overlaid, part_of_store, overlaid_by, paired, overlays_of}
use Rattle.vab_layout.specs.Overlay.{only_one, overlaid_in}
use Rattle.vab_builder.specs.Import.{stores_group}
use Rattle.vab_builder.specs.Sizes.{has_part}
use Rattle.vab_builder.specs.Overlay.{free_beside, overlay_part, with_overlay, IsOverlaid}
use Rattle.vab_builder.proofs.ListLaws.{filter_all, length-filter-le, sum_by-filter-le}
use Rattle.vab_builder.proofs.SlotLaws.{default_of_no_slot, store_group_of_no_slot}
use Rattle.vab_builder.proofs.SlotLaws.{store_of_no_slot, of_slot_not}
use Rattle.vab_builder.proofs.ImportLaws.{stores_rule, own_groups_named}
use Rattle.vab_builder.proofs.ImportLaws.{IsSlotPart, slot_parts, part_stays, own_parts_named}
use Rattle.vab_builder.proofs.ImportLaws.{own_parts_apart, own_parts_again, not_a_store}
use Rattle.vab_builder.proofs.ImportLaws.{plain_is_layout}
use Rattle.vab_builder.proofs.Counting.{pairs_append, once_take, once_ascending, enough_free}
use Rattle.vab_builder.proofs.Counting.{few_below}
use Rattle.vab_builder.proofs.PartLaws.{part_there}
use Rattle.vab_builder.proofs.KeepLaws.{runs_few}
use Rattle.vab_builder.proofs.StoreKeeps.{stored_own}

-- ---- the blocks of the store

pub overlay_room : (slot : ℕ) (l : Layout) (n : ℕ)
    → length (blocks_of_parts (own_parts slot l.parts)) + n ≤ cap_of l.device
    → n ≤ length (free_beside slot l)
overlay_room slot l n room =
    omega (arith, enough_free (cap_of l.device) (blocks_of_parts (own_parts slot l.parts)))

overlay_size : (slot : ℕ) (l : Layout) (n : ℕ)
    → length (blocks_of_parts (own_parts slot l.parts)) + n ≤ cap_of l.device
    → length (take n (free_beside slot l)) ≡ n
overlay_size slot l n room =
    omega (arith, length-take n (free_beside slot l), overlay_room slot l n room)

-- no block stands twice in the slot's partitions and the store
overlay_apart : (slot : ℕ) (l : Layout) (n : ℕ) → IsOwn slot l.parts
    → IsDistinct (blocks_of_parts (own_parts slot l.parts) ++ take n (free_beside slot l))
overlay_apart slot l n own =
    let cap : ℕ = cap_of l.device in
    let taken : List ℕ = blocks_of_parts (own_parts slot l.parts) in
    let free : List ℕ = free_beside slot l in
    pairs_append (λ a b. a ≢ b) taken (take n free) own.once
    (once_take n free (once_ascending free (free_ascends cap taken)))
    (λ x y cx cy e.
    ((is_free cap taken y).0 (of_take n free y cy)).1 (subst (Contains taken) e cx))

-- the blocks of the slot's partitions lie on the device, each once
pub own_fit : (slot : ℕ) (l : Layout) → IsLayout l → IsOwn slot l.parts
    → length (blocks_of_parts (own_parts slot l.parts)) ≤ cap_of l.device
own_fit slot l rules own =
    let cap : ℕ = cap_of l.device in
    let mine : List Part = own_parts slot l.parts in
    let each = slot_parts slot l rules own in
    few_below cap (blocks_of_parts mine) own.once
    (all_from (λ b. b < cap) (blocks_of_parts mine) (λ b c.
    let r = some_piece (λ (p : Part). p.blocks) mine b c in
    let is = All-contains (IsSlotPart cap l.groups slot) mine r.0 each r.1 in
    All-contains (λ x. x < cap) r.0.blocks b is.rule.blocks r.2))

pub sizes_are : (parts : List Part)
    → length (blocks_of_parts parts) ≡ sum (map (λ p. length p.blocks) parts)
sizes_are parts =
    length-flat_map (λ (p : Part). p.blocks) parts
    ∙ sym (sum-map (λ (p : Part). length p.blocks) parts)

-- ---- the name of the partition

-- a name of another slot is none of the slot's partitions
pub none_own : (slot : ℕ) (name : List ℕ) (parts : List Part) → is_of_slot slot name ≡ false
    → has_part name (own_parts slot parts) ≡ false
none_own slot name parts other =
    false_from_ne_true (has_part name (own_parts slot parts)) (λ there.
    let r = part_there name (own_parts slot parts) there in
    let of = (of_filter (λ p. is_of_slot slot p.name) parts r.0 r.1).1 in
    both_ways (is_of_slot slot name) other (ap (is_of_slot slot) (sym r.2) ∙ of))

pub own_name : (slot : ℕ) (l : Layout) (name : List ℕ) → IsOwn slot l.parts
    → has_part name (own_parts slot l.parts) ≡ true
    → IsName name × (length name ≤ 32)
own_name slot l name own there =
    let mine : List Part = own_parts slot l.parts in
    let r = part_there name mine there in
    let of : is_of_slot slot r.0.name ≡ true =
    (of_filter (λ p. is_of_slot slot p.name) l.parts r.0 r.1).1 in
    let rule : IsOwnPart slot r.0 = All-contains (IsOwnPart slot) mine r.0 own.each r.1 in (
      subst IsName r.2 (full_name slot r.0.name of rule.base),
      subst (λ (a : List ℕ). length a ≤ 32) r.2 (full_short slot r.0.name of rule.base),
    )

-- ---- the rules of layouts

pub overlay_is_layout : (slot : ℕ) (l : Layout) (name : List ℕ) (n : ℕ) → IsLayout l
    → IsOwn slot l.parts
    → has_part name (own_parts slot l.parts) ≡ true
    → IsLayout (with_overlay slot l name n)
unfolding with_overlay plain
overlay_is_layout slot l name n rules own there =
    let cap : ℕ = cap_of l.device in
    let mine : List Group = own_groups slot l.groups in
    let parts : List Part = own_parts slot l.parts in
    let all : List Group = mine ++ stores_group ∷ [] in
    let groups : List Group = default_group ∷ all in
    let taken : List ℕ = blocks_of_parts parts in
    let free : List ℕ = free_beside slot l in
    let s : Part = overlay_part slot l name n in
    let alone = plain_is_layout slot l rules own in
    let each = slot_parts slot l rules own in
    let named = own_name slot l name own there in
    let apart : All (λ (g : Group). g.name ≢ store_group_name) (default_group ∷ mine) =
    All-cons (λ (g : Group). g.name ≢ store_group_name) default_group mine (λ e. cc e)
    (λ (k : ℕ) (d : Group) lt.
    of_slot_not slot _ store_group_name (own_groups_named slot l.groups k d lt)
    (store_group_of_no_slot slot)) in
    let one : All (IsPart cap groups) parts =
    λ (k : ℕ) (d : Part) lt. part_stays cap slot l.groups all _ (each k d lt)
    (λ g c. Contains-append_left mine (stores_group ∷ []) g c) in
    let store : IsPart cap groups s = record {
      name = store_is_name name named.0 named.1;
      attributes = refl;
      small = omega arith;
      group =
          in_map (λ (g : Group). g.name) groups stores_group
          (Contains-append_right (default_group ∷ mine) (stores_group ∷ []) stores_group
          (first stores_group []));
      blocks =
          all_from (λ b. b < cap) (take n free)
          (λ b h. ((is_free cap taken b).0 (of_take n free b h)).0);
    } in
    record {
      device = rules.device;
      flags = rules.flags;
      groups = All-push IsGroup (default_group ∷ mine) stores_group alone.groups stores_rule;
      group_names =
          all_pairs_push (λ a b. a.name ≢ b.name) (default_group ∷ mine) stores_group
          alone.group_names
          apart;
      parts = All-push (IsPart cap groups) parts s one store;
      part_names =
          all_pairs_push (λ a b. a.name ≢ b.name) parts s
          (own_parts_apart slot l.parts rules.part_names)
          (not_a_store slot parts name (own_parts_named slot l.parts));
    }

-- ---- the slot's own

pub overlay_own : (slot : ℕ) (l : Layout) (name : List ℕ) (n : ℕ)
    → own_parts slot (with_overlay slot l name n).parts ≡ own_parts slot l.parts
unfolding with_overlay
overlay_own slot l name n =
    stored_own slot (own_parts slot l.parts) (overlay_part slot l name n)
    (store_of_no_slot slot name)
    ∙ own_parts_again slot l.parts

pub overlay_is_own : (slot : ℕ) (l : Layout) (name : List ℕ) (n : ℕ) → IsOwn slot l.parts
    → IsOwn slot (with_overlay slot l name n).parts
overlay_is_own slot l name n own =
    let is = overlay_own slot l name n in record {
      each = subst (λ (ps : List Part). All (IsOwnPart slot) ps) (sym is) own.each;
      few = subst (λ (ps : List Part). length ps ≤ most_partitions) (sym is) own.few;
      once = subst (λ (ps : List Part). IsDistinct (blocks_of_parts ps)) (sym is) own.once;
    }

overlay_own_groups : (slot : ℕ) (l : Layout) (name : List ℕ) (n : ℕ)
    → own_groups slot (with_overlay slot l name n).groups ≡ own_groups slot l.groups
unfolding with_overlay
overlay_own_groups slot l name n =
    let own : List Group = own_groups slot l.groups in
    let none : List Group = [] in
    let test : Group → Bool = λ g. is_of_slot slot g.name in
    let last : filter test (stores_group ∷ none) ≡ none = rw (store_group_of_no_slot slot) refl in
    let rest : filter test (own ++ stores_group ∷ none) ≡ own =
    filter-append test own (stores_group ∷ none)
    ∙ ap (λ (gs : List Group). filter test own ++ gs) last
    ∙ append-nil (filter test own)
    ∙ filter_all test own (own_groups_named slot l.groups) in
    rw (default_of_no_slot slot) rest

pub overlay_groups_same : (slot : ℕ) (l : Layout) (name : List ℕ) (n : ℕ)
    → groups_of_slot slot (with_overlay slot l name n).groups ≡ groups_of_slot slot l.groups
overlay_groups_same slot l name n =
    ap (λ (gs : List Group). map (λ (g : Group). (base_of g.name, g.maximum_size)) gs)
    (overlay_own_groups slot l name n)

pub overlay_device : (slot : ℕ) (l : Layout) (name : List ℕ) (n : ℕ)
    → (with_overlay slot l name n).device ≡ l.device
unfolding with_overlay plain
overlay_device slot l name n = refl

overlay_flags : (slot : ℕ) (l : Layout) (name : List ℕ) (n : ℕ)
    → (with_overlay slot l name n).flags ≡ l.flags
unfolding with_overlay plain
overlay_flags slot l name n = refl

-- without the store it is the slot's table without stores
pub overlay_plain : (slot : ℕ) (l : Layout) (name : List ℕ) (n : ℕ)
    → plain slot (with_overlay slot l name n) ≡ plain slot l
unfolding plain
overlay_plain slot l name n =
    let parts = overlay_own slot l name n in
    let groups = overlay_own_groups slot l name n in
    let device = overlay_device slot l name n in
    let flags = overlay_flags slot l name n in
    cc (parts, groups, device, flags)

-- ---- how long the lists are

pub overlay_parts_count : (slot : ℕ) (l : Layout) (name : List ℕ) (n : ℕ)
    → length (with_overlay slot l name n).parts ≤ length l.parts + 1
unfolding with_overlay
overlay_parts_count slot l name n =
    omega (
      arith,
      length-append (own_parts slot l.parts) (overlay_part slot l name n ∷ []),
      length-filter-le (λ p. is_of_slot slot p.name) l.parts,
    )

pub overlay_groups_count : (slot : ℕ) (l : Layout) (name : List ℕ) (n : ℕ)
    → length (with_overlay slot l name n).groups ≤ length l.groups + 2
unfolding with_overlay
overlay_groups_count slot l name n =
    omega (
      arith,
      length-append (own_groups slot l.groups) (stores_group ∷ []),
      length-filter-le (λ g. is_of_slot slot g.name) l.groups,
    )

pub overlay_runs : (slot : ℕ) (l : Layout) (name : List ℕ) (n : ℕ)
    → sum_by (λ p. length (runs_of p.blocks)) (with_overlay slot l name n).parts
    ≤ sum_by (λ p. length (runs_of p.blocks)) l.parts + n
unfolding with_overlay
overlay_runs slot l name n =
    let runs : Part → ℕ = λ p. length (runs_of p.blocks) in
    omega (
      arith,
      sum_by_push runs (own_parts slot l.parts) (overlay_part slot l name n),
      sum_by-filter-le (λ p. is_of_slot slot p.name) runs l.parts,
      runs_few (take n (free_beside slot l)),
      length-take n (free_beside slot l),
    )

-- ---- the store and its partition

-- the first partition whose store it is has this name
store_found : (own : List Part) (s : Part) (name : List ℕ) → s.name ≡ store_of name
    → has_part name own ≡ true
    → (p : Part) × Contains own p × (p.name ≡ name) × (part_of_store own s ≡ Some p)
store_found [] s name is there = cc there
store_found (p ∷ ps) s name is there =
    elim (cases_Bool (bytes_eq s.name (store_of p.name))) [
      | inl e ↦
          let same : store_of p.name ≡ store_of name =
          sym (same_name s.name (store_of p.name) e) ∙ is in
          (p, first p ps, store_of_same p.name name same, rw e refl)
      | inr f ↦ elim (or_cases (bytes_eq p.name name) (has_part name ps) there) [
        | inl named ↦
            let same : s.name ≡ store_of p.name =
            is ∙ ap store_of (sym (same_name p.name name named)) in
            cc (f, eq_name s.name (store_of p.name) same)
        | inr rest ↦
            let r = store_found ps s name is rest in
            (r.0, later p ps r.0 r.1, r.2, rw f r.3)
      ]
    ]

-- no partition of the slot is the store of one
no_store : (own : List Part) (x : Part) → All (λ p. x.name ≢ store_of p.name) own
    → part_of_store own x ≡ None
no_store [] x all = refl
no_store (p ∷ ps) x all =
    let ne = All-head (λ q. x.name ≢ store_of q.name) p ps all in
    rw (ne_name x.name (store_of p.name) ne)
    (no_store ps x (All-tail (λ q. x.name ≢ store_of q.name) p ps all))

no_overlay : (own : List Part) (x : Part) → part_of_store own x ≡ None → overlaid_by own x ≡ None
no_overlay own x none = elim (cases_Bool (bytes_eq x.group store_group_name)) [
  | inl e ↦ rw e none
  | inr f ↦ rw f refl
]

passed_over : (own parts rest : List Part) → All (λ x. part_of_store own x ≡ None) parts
    → overlays_of own (parts ++ rest) ≡ overlays_of own rest
passed_over own [] rest all = refl
passed_over own (x ∷ xs) rest all =
    let here = no_overlay own x (All-head (λ y. part_of_store own y ≡ None) x xs all) in
    ap (λ (o : Option Part). paired o x (overlays_of own (xs ++ rest))) here
    ∙ passed_over own xs rest (All-tail (λ y. part_of_store own y ≡ None) x xs all)

own_are_none : (slot : ℕ) (parts : List Part)
    → All (λ x. part_of_store (own_parts slot parts) x ≡ None) (own_parts slot parts)
own_are_none slot parts = λ (k : ℕ) (d : Part) lt.
    let mine : List Part = own_parts slot parts in
    no_store mine (get_or mine k d)
    (λ (j : ℕ) (e : Part) lj.
    of_slot_not slot (get_or mine k d).name (store_of (get_or mine j e).name)
    (own_parts_named slot parts k d lt)
    (store_of_no_slot slot (get_or mine j e).name))

only_overlay : (slot : ℕ) (l : Layout) (name : List ℕ) (n : ℕ) (p : Part)
    → part_of_store (own_parts slot l.parts) (overlay_part slot l name n) ≡ Some p
    → overlaid_in slot (with_overlay slot l name n).parts
    ≡ Some (record { part = p; store = overlay_part slot l name n })
unfolding overlaid_in with_overlay
only_overlay slot l name n p found =
    let mine : List Part = own_parts slot l.parts in
    let s : Part = overlay_part slot l name n in
    let all : List Part = mine ++ s ∷ [] in
    let none : List Overlaid = [] in
    ap (λ (own : List Part). only_one (overlays_of own all)) (overlay_own slot l name n)
    ∙ ap only_one (passed_over mine mine (s ∷ []) (own_are_none slot l.parts))
    ∙ ap (λ (o : Option Part). only_one (paired o s none)) found

pub overlay_is_overlaid : (slot : ℕ) (l : Layout) (name : List ℕ) (n : ℕ) → IsOwn slot l.parts
    → has_part name (own_parts slot l.parts) ≡ true
    → length (blocks_of_parts (own_parts slot l.parts)) + n ≤ cap_of l.device
    → IsOverlaid slot l (with_overlay slot l name n) name n
unfolding with_overlay
overlay_is_overlaid slot l name n own there room =
    let mine : List Part = own_parts slot l.parts in
    let s : Part = overlay_part slot l name n in
    let r = store_found mine s name refl there in
    let same = overlay_own slot l name n in
    record {
      part = r.0;
      named = r.2;
      one = only_overlay slot l name n r.0 r.3;
      is = record {
        own = subst (λ (ps : List Part). Contains ps r.0) (sym same) r.1;
        listed = Contains-append_right mine (s ∷ []) s (first s []);
        name = ap store_of (sym r.2);
        group = refl;
        apart =
            subst (λ (ps : List Part). IsDistinct (blocks_of_parts ps ++ s.blocks)) (sym same)
            (overlay_apart slot l n own);
      };
      size = overlay_size slot l n room;
    }
