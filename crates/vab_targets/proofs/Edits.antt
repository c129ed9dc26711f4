-- What each edit makes of the plan of the target's table.
use Rattle.std.proofs.Common.{◌≡◌, ◌∙◌, inl, inr, ℕ, Bool, true, false, cond, List, [], ◌∷◌}
use Rattle.std.proofs.Common.{◌++◌, length, Ok, eqb, refl, sym, ap}
use Rattle.std.specs.Prelude.{not, Some, None, Contains, map, if◌then◌else◌, ◌==◌}
use Rattle.std.specs.List.{filter}
use Rattle.std.specs.Str.{bytes_eq}
use Rattle.std.proofs.lemmas.Bool.{cases_Bool, cases_eq, both_ways, eq-eqb, ne_eqb}
use Rattle.std.proofs.lemmas.List.{append-nil}
use Rattle.std.proofs.lemmas.List.Elements.{All-contains, filter-append}
use Rattle.vab_names.specs.Names.{is_of_slot, is_store, base_of, store_of, default_name}
use Rattle.vab_names.proofs.NameCases.{same_name, eq_name, ne_name, other_name, full_slot}
use Rattle.vab_names.proofs.NameCases.{store_is_store, store_of_same, default_not_own}
use Rattle.vab_space.specs.Space.{need_of, blocks_of}
use Rattle.vab_tables.specs.declared.entries.Group.{Group}
use Rattle.vab_layout.specs.declared.layout.Part.{Part}
use Rattle.vab_layout.specs.declared.layout.Layout.{Layout}
use Rattle.vab_layout.specs.Plain.{own_groups}
use Rattle.vab_layout.specs.Slots.{own_parts, store_parts, blocks_named, is_updated}
use Rattle.vab_layout.specs.Slots.{IsStorePart, groups_of_slot}
use Rattle.vab_blocks.proofs.Contained.{first, in_filter, of_filter}
use Rattle.vab_builder.specs.declared.edit.Edit.{Edit}
use Rattle.vab_builder.specs.declared.edit.Edit.TheVariants as edits
use Rattle.vab_builder.specs.Asked.{KeepsOthers}
use Rattle.vab_builder.specs.Edits.{changed, changed_beside, created_part, resized_part, updated}
use Rattle.vab_builder.specs.Edits.{store_part, store_blocks}
use Rattle.vab_builder.specs.Edits.{first_group as first_of_slot}
use Rattle.vab_builder.specs.Sizes.{has_part}
use Rattle.vab_builder.specs.Update.{IsUpdateBeside}
use Rattle.vab_builder.proofs.AskedLaws.{edit_done}
use Rattle.vab_builder.proofs.ChangedTarget.{either, changed_own}
use Rattle.vab_builder.proofs.DeleteVerdicts.{deleted_passes}
use Rattle.vab_builder.proofs.EditLaws.{same_size, other_size}
use Rattle.vab_builder.proofs.PartLaws.{named_is, part_there, part_absent}
use Rattle.vab_builder.proofs.ResizeKeeps.{updated_is}
use Rattle.vab_builder.proofs.ResizeVerdicts.{resized_passes}
use Rattle.vab_builder.proofs.SlotLaws.{store_of_no_slot}
use Rattle.vab_builder.proofs.RoomLaws.{created_size, resized_size}
use Rattle.vab_builder.proofs.StoreVerdicts.{stored_passes}
use Rattle.vab_builder.proofs.Verdicts.{created_passes}
use Rattle.vab_model.specs.declared.state.GroupLimit.{GroupLimit}
use Rattle.vab_model.specs.declared.state.PlanImage.TheVariants.{Declared}
use Rattle.vab_model.specs.declared.state.PlanEntry.{PlanEntry}
use Rattle.vab_model.specs.Plans.{entry_named, first_group, created_entry, resized_entry}
use Rattle.vab_model.specs.Plans.{stored_entry, at_entry, without_entry}
use Rattle.vab_device.specs.Kept.{group_of, limits_of}
use Rattle.vab_device.specs.Updates.{image_or, written_of, entry_by, plan_by}
use Rattle.vab_edit.proofs.NamedLaws.{base_eq}
use Rattle.vab_edit.proofs.PlanLaws.{map_among, map_map}
use Rattle.vab_targets.proofs.Entries.{map_changed, map_fewer, filter_swap, store_size, size_there}
use Rattle.vab_targets.proofs.Entries.{size_absent, size_same, no_store, other_store, own_of}
use Rattle.vab_targets.proofs.Entries.{own_is}
use Rattle.vab_targets.proofs.Entries.{entry_same}
use Rattle.vab_targets.proofs.Named.{entry_absent}

-- ---- edits, by their values

abbrev pub create_of : List ℕ → ℕ → Edit
create_of name bytes = edits.Create (record { ref_ptr = (0, 0); now = name }) bytes

abbrev pub resize_of : List ℕ → ℕ → Edit
resize_of name bytes = edits.Resize (record { ref_ptr = (0, 0); now = name }) bytes

abbrev pub delete_of : List ℕ → Edit
delete_of name = edits.Delete (record { ref_ptr = (0, 0); now = name })

abbrev pub store_edit_of : List ℕ → ℕ → Edit
store_edit_of name bytes = edits.AddStore (record { ref_ptr = (0, 0); now = name }) bytes

-- ---- the group of a new partition

abbrev pairs_of : List Group → List (List ℕ × ℕ)
pairs_of groups = map (λ g. (base_of g.name, g.maximum_size)) groups

abbrev limits_in : List Group → List GroupLimit
limits_in groups = map (λ g. record { name = base_of g.name; limit = g.maximum_size }) groups

abbrev first_base : List (List ℕ × ℕ) → List ℕ
first_base [] = []
first_base (p ∷ ps) = p.0

-- the first of a slot's groups has the base name of its twin
group_same : (slot : ℕ) (xs ys : List Group)
    → pairs_of xs ≡ pairs_of ys
    → ((y : Group) → Contains ys y → is_of_slot slot y.name ≡ true)
    → group_of (first_of_slot ys) ≡ first_group (limits_in xs)
group_same slot [] [] same of =
    ap (λ (b : Bool). cond b None (Some (base_of default_name)))
    (eq_name default_name default_name refl)
group_same slot [] (y ∷ ys) same of = absurd cc
group_same slot (x ∷ xs) [] same of = absurd cc
group_same slot (x ∷ xs) (y ∷ ys) same of =
    let other : bytes_eq y.name default_name ≡ false =
    ne_name y.name default_name
    (λ e. both_ways (is_of_slot slot y.name) (ap (is_of_slot slot) e ∙ default_not_own slot)
    (of y (first y ys))) in
    rw other (ap (λ (n : List ℕ). Some n) (sym (ap first_base same)))

pub group_is : (slot source : ℕ) (ss ts : List Group)
    → groups_of_slot source ss ≡ groups_of_slot slot ts
    → group_of (first_of_slot (own_groups slot ts)) ≡ first_group (limits_of source ss)
group_is slot source ss ts same =
    group_same slot (own_groups source ss) (own_groups slot ts) same
    (λ y c. (of_filter (λ (g : Group). is_of_slot slot g.name) ts y c).1)

-- ---- a partition at the end

own_pushed : (slot : ℕ) (ps : List Part) (x : Part)
    → is_of_slot slot x.name ≡ false
    → own_parts slot (ps ++ x ∷ []) ≡ own_parts slot ps
own_pushed slot ps x other =
    let none : List Part = [] in
    let out : filter (λ (p : Part). is_of_slot slot p.name) (x ∷ none) ≡ none = rw other refl in
    filter-append (λ (p : Part). is_of_slot slot p.name) ps (x ∷ none)
    ∙ ap (λ (l : List Part). own_parts slot ps ++ l) out
    ∙ append-nil (own_parts slot ps)

own_more : (slot : ℕ) (ps : List Part) (x : Part)
    → is_of_slot slot x.name ≡ true
    → own_parts slot (ps ++ x ∷ []) ≡ own_parts slot ps ++ x ∷ []
own_more slot ps x of =
    let none : List Part = [] in
    let in_slot : filter (λ (p : Part). is_of_slot slot p.name) (x ∷ none) ≡ x ∷ none =
    rw of refl in
    filter-append (λ (p : Part). is_of_slot slot p.name) ps (x ∷ none)
    ∙ ap (λ (l : List Part). own_parts slot ps ++ l) in_slot

map_more : (f : Part → PlanEntry) (ps : List Part) (x : Part)
    → map f (ps ++ x ∷ []) ≡ map f ps ++ f x ∷ []
map_more f [] x = refl
map_more f (p ∷ ps) x = ap (λ (l : List PlanEntry). f p ∷ l) (map_more f ps x)

-- ---- edits of a target's table

module _
    (slot : ℕ) (twins : List Part) (s t : Layout) (plan : List PlanEntry)
    (update : IsUpdateBeside slot twins s t)
    (again : plan ≡ plan_by slot t plan) where
  -- nothing is written to the partition of this name
  abbrev IsUnwritten : List ℕ → Type 0
  IsUnwritten name = written_of (entry_named (base_of name) plan) ≡ None

  -- where it is updated it is declared
  declared : (name : List ℕ) (b : Bool)
      → IsUnwritten name
      → b ≡ true
      → image_or b (written_of (entry_named (base_of name) plan)) ≡ Declared
  declared name b unwritten is = (λ i. image_or (is i) (unwritten i))

  blocks_are : (name : List ℕ) (p : Part)
      → Contains (own_parts slot t.parts) p
      → p.name ≡ name
      → blocks_named name t.parts ≡ p.blocks
  blocks_are name p c e =
      named_is name t.parts p update.target_rules.part_names (own_of slot t.parts p c) e

  -- ---- a partition less

  pub deleted_plan : (name : List ℕ) (l : Layout)
      → changed_beside slot twins s t (delete_of name) ≡ Ok l
      → plan_by slot l plan ≡ without_entry (base_of name) plan
  deleted_plan name l h =
      let passes = deleted_passes slot t name l h in
      let of = full_slot slot name passes.0.full in
      let others : KeepsOthers name t l =
      (edit_done slot twins s t (delete_of name) l update h).others in
      let keeps : Part → Bool = λ p. not (bytes_eq p.name name) in
      let left : own_parts slot l.parts ≡ filter keeps (own_parts slot t.parts) =
      ap (λ (x : Layout). own_parts slot x.parts) passes.1
      ∙ filter_swap (λ (p : Part). is_of_slot slot p.name) keeps t.parts in
      ap (map (entry_by l plan)) left
      ∙ map_fewer (entry_by l plan) (entry_by t plan) keeps
      (λ (e : PlanEntry). not (bytes_eq e.name (base_of name)))
      (own_parts slot t.parts)
      (λ p c. ap not (sym (base_eq slot p.name name (own_is slot t.parts p c) of)))
      (λ p c. entry_same t l plan p (others (store_of p.name) (no_store slot name p.name of)))
      ∙ ap (without_entry (base_of name)) (sym again)

  -- ---- a store more

  stored_one : (name : List ℕ) (bytes : ℕ) (l : Layout) (p : Part)
      → is_of_slot slot name ≡ true
      → IsUnwritten name
      → KeepsOthers (store_of name) t l
      → store_size (store_of name) l.parts ≡ Some (store_blocks t name bytes)
      → Contains (own_parts slot t.parts) p
      → entry_by l plan (either name updated p)
      ≡ cond (bytes_eq (base_of p.name) (base_of name))
      (stored_entry bytes (entry_by t plan p))
      (entry_by t plan p)
  stored_one name bytes l p of unwritten others made c =
      let mine = own_is slot t.parts p c in
      let same = base_eq slot p.name name mine of in
      elim (cases_Bool (bytes_eq p.name name)) [
        | inl here ↦
            let e = same_name p.name name here in
            let size : store_size (store_of p.name) l.parts
            ≡ Some (if bytes == 0 then need_of (length p.blocks) else blocks_of bytes) =
            ap (λ (n : List ℕ). store_size (store_of n) l.parts) e
            ∙ made
            ∙ ap (λ (b : List ℕ).
            Some (if bytes == 0 then need_of (length b) else blocks_of bytes))
            (blocks_are name p c e) in
            let image = declared p.name (is_updated (updated p))
            (ap (λ (n : List ℕ). written_of (entry_named (base_of n) plan)) e ∙ unwritten)
            (updated_is p.attributes) in
            rw (same, here) (λ i. record {
              name = base_of p.name;
              group = group_of p.group;
              blocks = length p.blocks;
              store = size i;
              image = image i;
            })
        | inr other ↦
            rw (same, other)
            (entry_same t l plan p
            (others (store_of p.name)
            (other_store p.name name (other_name p.name name other))))
      ]

  pub stored_plan : (name : List ℕ) (bytes : ℕ) (l : Layout)
      → IsUnwritten name
      → changed_beside slot twins s t (store_edit_of name bytes) ≡ Ok l
      → plan_by slot l plan ≡ at_entry (base_of name) (stored_entry bytes) plan
  stored_plan name bytes l unwritten h =
      let passes = stored_passes slot twins s t name bytes l h in
      let of = full_slot slot name passes.0.full in
      let done = edit_done slot twins s t (store_edit_of name bytes) l update h in
      let n : ℕ = store_blocks t name bytes in
      let made = size_there (store_of name) l.parts n done.asked.there done.asked.count in
      let new : Part = store_part slot s t name n in
      let stay : own_parts slot l.parts ≡ changed name updated (own_parts slot t.parts) =
      ap (λ (x : Layout). own_parts slot x.parts) passes.1
      ∙ own_pushed slot (changed name updated t.parts) new (store_of_no_slot slot name)
      ∙ changed_own slot name updated t.parts (λ p. refl) in
      ap (map (entry_by l plan)) stay
      ∙ map_changed (entry_by l plan) (entry_by t plan) (either name updated)
      (λ (e : PlanEntry). cond (bytes_eq e.name (base_of name)) (stored_entry bytes e) e)
      (own_parts slot t.parts)
      (λ p c. stored_one name bytes l p of unwritten done.others made c)
      ∙ ap (at_entry (base_of name) (stored_entry bytes)) (sym again)

  -- ---- another size

  -- the same size
  kept_one : (name : List ℕ) (n : ℕ) (p : Part)
      → is_of_slot slot name ≡ true
      → length (blocks_named name t.parts) ≡ n
      → Contains (own_parts slot t.parts) p
      → cond (bytes_eq (base_of p.name) (base_of name))
      (resized_entry n (entry_by t plan p))
      (entry_by t plan p)
      ≡ entry_by t plan p
  kept_one name n p of count c =
      let same = base_eq slot p.name name (own_is slot t.parts p c) of in
      elim (cases_Bool (bytes_eq p.name name)) [
        | inl here ↦
            let e = same_name p.name name here in
            let is : eqb (length p.blocks) n ≡ true =
            eq-eqb (length p.blocks) n (sym (ap length (blocks_are name p c e)) ∙ count) in
            rw (same, here, is) refl
        | inr other ↦ rw (same, other) refl
      ]

  kept_sizes : (name : List ℕ) (n : ℕ)
      → is_of_slot slot name ≡ true
      → length (blocks_named name t.parts) ≡ n
      → plan_by slot t plan ≡ at_entry (base_of name) (resized_entry n) (plan_by slot t plan)
  kept_sizes name n of count =
      let change : PlanEntry → PlanEntry =
      λ e. cond (bytes_eq e.name (base_of name)) (resized_entry n e) e in
      sym (map_map (entry_by t plan) change (own_parts slot t.parts)
      ∙ map_among (λ p. change (entry_by t plan p)) (entry_by t plan) (own_parts slot t.parts)
      (λ p c. kept_one name n p of count c))

  resized_one : (name : List ℕ) (n : ℕ) (l : Layout) (p : Part)
      → is_of_slot slot name ≡ true
      → IsUnwritten name
      → KeepsOthers name t l
      → (length (blocks_named name t.parts) ≡ n → ⊥)
      → (p.name ≡ name → length (resized_part slot twins s t n p).blocks ≡ n)
      → Contains (own_parts slot t.parts) p
      → entry_by l plan (either name (resized_part slot twins s t n) p)
      ≡ cond (bytes_eq (base_of p.name) (base_of name))
      (resized_entry n (entry_by t plan p))
      (entry_by t plan p)
  resized_one name n l p of unwritten others new count c =
      let mine = own_is slot t.parts p c in
      let same = base_eq slot p.name name mine of in
      let stays = others (store_of p.name) (no_store slot name p.name of) in
      elim (cases_Bool (bytes_eq p.name name)) [
        | inl here ↦
            let e = same_name p.name name here in
            let size = size_same (store_of p.name) t l stays in
            let blocks = count e in
            let differs : eqb (length p.blocks) n ≡ false =
            ne_eqb (length p.blocks) n (λ is. new (ap length (blocks_are name p c e) ∙ is)) in
            let image = declared p.name (is_updated (resized_part slot twins s t n p))
            (ap (λ (m : List ℕ). written_of (entry_named (base_of m) plan)) e ∙ unwritten)
            (updated_is p.attributes) in
            rw (same, here, differs) (λ i. record {
              name = base_of p.name;
              group = group_of p.group;
              blocks = blocks i;
              store = size i;
              image = image i;
            })
        | inr other ↦ rw (same, other) (entry_same t l plan p stays)
      ]

  pub resized_plan : (name : List ℕ) (bytes : ℕ) (l : Layout)
      → IsUnwritten name
      → changed_beside slot twins s t (resize_of name bytes) ≡ Ok l
      → plan_by slot l plan ≡ at_entry (base_of name) (resized_entry (blocks_of bytes)) plan
  resized_plan name bytes l unwritten h =
      let passes = resized_passes slot twins s t name bytes l h in
      let of = full_slot slot name passes.0.full in
      let n : ℕ = blocks_of bytes in
      let back = ap (at_entry (base_of name) (resized_entry n)) (sym again) in
      elim (cases_eq (length (blocks_named name t.parts)) n) [
        | inl same ↦
            let is : l ≡ t = passes.1 ∙ same_size slot twins s t name n same in
            ap (λ (x : Layout). plan_by slot x plan) is ∙ kept_sizes name n of same ∙ back
        | inr new ↦
            let others : KeepsOthers name t l =
            (edit_done slot twins s t (resize_of name bytes) l update h).others in
            let change : Part → Part = resized_part slot twins s t n in
            let stay : own_parts slot l.parts ≡ changed name change (own_parts slot t.parts) =
            ap (λ (x : Layout). own_parts slot x.parts)
            (passes.1 ∙ other_size slot twins s t name n new)
            ∙ changed_own slot name change t.parts (λ p. refl) in
            ap (map (entry_by l plan)) stay
            ∙ map_changed (entry_by l plan) (entry_by t plan) (either name change)
            (λ (e : PlanEntry). cond (bytes_eq e.name (base_of name)) (resized_entry n e) e)
            (own_parts slot t.parts)
            (λ p c. resized_one name n l p of unwritten others new
            (λ e. resized_size slot twins s t name n p update c e passes.0.room) c)
            ∙ back
      ]

  -- ---- a partition more

  -- there is no store without its partition
  storeless : (name : List ℕ)
      → is_of_slot slot name ≡ true
      → has_part name t.parts ≡ false
      → has_part (store_of name) t.parts ≡ false
  storeless name of absent = elim (cases_Bool (has_part (store_of name) t.parts)) [
    | inl there ↦
        let q = part_there (store_of name) t.parts there in
        let is : is_store slot q.0.name ≡ true =
        ap (is_store slot) q.2 ∙ store_is_store slot name of in
        let among = in_filter (λ (p : Part). is_store slot p.name) t.parts q.0 q.1 is in
        let kept = All-contains (IsStorePart slot s.parts t.parts) (store_parts slot t.parts) q.0
        update.parts.stores among in
        let has = kept.of_part in
        let named : name ≡ has.1.name =
        store_of_same name has.1.name (sym q.2 ∙ has.4.0) in
        absurd (part_absent name t.parts has.1 absent
        (own_of slot t.parts has.1 (has.0, has.2, has.3)) (sym named))
    | inr none ↦ none
  ]

  pub created_plan : (groups : List GroupLimit) (name : List ℕ) (bytes : ℕ) (l : Layout)
      → group_of (first_of_slot (own_groups slot t.groups)) ≡ first_group groups
      → changed_beside slot twins s t (create_of name bytes) ≡ Ok l
      → plan_by slot l plan ≡ plan ++ created_entry groups (base_of name) bytes ∷ []
  created_plan groups name bytes l group h =
      let passes = created_passes slot twins s t name bytes l h in
      let of = full_slot slot name passes.0.full in
      let others : KeepsOthers name t l =
      (edit_done slot twins s t (create_of name bytes) l update h).others in
      let n : ℕ = blocks_of bytes in
      let new : Part = created_part slot twins s t name n in
      let plain = storeless name of passes.0.absent in
      let more : own_parts slot l.parts ≡ own_parts slot t.parts ++ new ∷ [] =
      ap (λ (x : Layout). own_parts slot x.parts) passes.1 ∙ own_more slot t.parts new of in
      let before : map (entry_by l plan) (own_parts slot t.parts) ≡ plan =
      map_among (entry_by l plan) (entry_by t plan) (own_parts slot t.parts)
      (λ p c. entry_same t l plan p (others (store_of p.name) (no_store slot name p.name of)))
      ∙ sym again in
      let blocks = created_size slot twins s t name n update passes.0.room in
      let size : store_size (store_of name) l.parts ≡ None =
      size_same (store_of name) t l (others (store_of name) (no_store slot name name of))
      ∙ size_absent (store_of name) t.parts plain in
      let unwritten : IsUnwritten name =
      ap written_of (entry_absent slot t plan again name of passes.0.absent) in
      let image = declared name (is_updated new) unwritten refl in
      let last : entry_by l plan new ≡ created_entry groups (base_of name) bytes = (λ i. record {
        name = base_of name;
        group = group i;
        blocks = blocks i;
        store = size i;
        image = image i;
      }) in
      ap (map (entry_by l plan)) more
      ∙ map_more (entry_by l plan) (own_parts slot t.parts) new
      ∙ (λ i. before i ++ last i ∷ [])
