-- The bytes and the limit of a group, by a table's partitions and by the plan that it has.
use Rattle.std.proofs.Common.{◌++◌, ◌≡◌, ◌∙◌, ℕ, true, false, cond, List, []}
use Rattle.std.proofs.Common.{◌∷◌}
use Rattle.std.proofs.Common.{length, inl, inr, refl, sym, ap}
use Rattle.std.specs.Prelude.{Option, Some, None, map, Contains, All}
use Rattle.std.specs.List.{filter}
use Rattle.std.specs.Str.{bytes_eq}
use Rattle.std.proofs.lemmas.Bool.{cases_Bool, both_ways}
use Rattle.std.proofs.lemmas.List.Elements.{All-contains}
use Rattle.vab_names.specs.Names.{is_of_slot, base_of, default_name}
use Rattle.vab_names.proofs.NameCases.{same_name, eq_name, ne_name, other_name, default_not_own}
use Rattle.vab_tables.specs.declared.entries.Group.{Group}
use Rattle.vab_blocks.proofs.Contained.{first, later, of_filter}
use Rattle.vab_layout.specs.declared.layout.Part.{Part}
use Rattle.vab_layout.specs.Plain.{own_groups}
use Rattle.vab_layout.specs.Slots.{own_parts, groups_of_slot, IsOwnPart}
use Rattle.vab_builder.specs.Edits.{group_named}
use Rattle.vab_builder.specs.Edits.{first_group as first_of_slot}
use Rattle.vab_model.specs.Plans.{first_group}
use Rattle.vab_device.specs.Stores.{first_named}
use Rattle.vab_builder.specs.Sizes.{limit_of, sizes_in}
use Rattle.vab_model.specs.declared.state.GroupLimit.{GroupLimit}
use Rattle.vab_model.specs.declared.state.PlanEntry.{PlanEntry}
use Rattle.vab_model.specs.Plans.{same_group, limit_named}
use Rattle.vab_model.specs.Plans.{limit_of as limit_by}
use Rattle.vab_device.specs.Kept.{group_of, limits_of}
use Rattle.vab_edit.proofs.NamedLaws.{base_eq}

-- ---- names of groups

-- that of no slot, or one of the slot
pub data IsOfSlot (o : ℕ) (name : List ℕ) : Type 0 where
  of_none : name ≡ default_name → IsOfSlot o name
  of_own : is_of_slot o name ≡ true → IsOfSlot o name

-- one of the slot isn't that of no slot
own_not : (o : ℕ) (name : List ℕ)
    → is_of_slot o name ≡ true
    → bytes_eq name default_name ≡ false
own_not o name of =
    ne_name name default_name
    (λ e. both_ways (is_of_slot o name) (ap (is_of_slot o) e ∙ default_not_own o) of)

own_is : (o : ℕ) (name : List ℕ)
    → is_of_slot o name ≡ true
    → group_of name ≡ Some (base_of name)
own_is o name of = let other = own_not o name of in rw other refl

none_is : (name : List ℕ) → name ≡ default_name → group_of name ≡ None
none_is name e = let same = eq_name name default_name e in rw same refl

pub group_same : (o : ℕ) (a b : List ℕ)
    → IsOfSlot o a
    → IsOfSlot o b
    → same_group (group_of a) (group_of b) ≡ bytes_eq a b
group_same o a b (of_none x) (of_none y) =
    (λ i. same_group (none_is a x i) (none_is b y i)) ∙ sym (eq_name a b (x ∙ sym y))
group_same o a b (of_none x) (of_own y) =
    (λ i. same_group (none_is a x i) (own_is o b y i))
    ∙ sym (ne_name a b (λ e. other_name b default_name (own_not o b y) (sym e ∙ x)))
group_same o a b (of_own x) (of_none y) =
    (λ i. same_group (own_is o a x i) (none_is b y i))
    ∙ sym (ne_name a b (λ e. other_name a default_name (own_not o a x) (e ∙ y)))
group_same o a b (of_own x) (of_own y) =
    (λ i. same_group (own_is o a x i) (own_is o b y i)) ∙ base_eq o a b x y

-- ---- limits

-- the groups of a slot, each with its limit
abbrev limit_at : List ℕ × ℕ → GroupLimit
limit_at p = record { name = p.0; limit = p.1 }

limits_are : (slot : ℕ) (gs : List Group)
    → limits_of slot gs ≡ map limit_at (groups_of_slot slot gs)
limits_are slot gs = by_own (own_groups slot gs)
  where
    by_own : (xs : List Group)
        → map {B = GroupLimit}
        (λ (g : Group). record { name = base_of g.name; limit = g.maximum_size }) xs
        ≡ map limit_at (map (λ (g : Group). (base_of g.name, g.maximum_size)) xs)
    by_own [] = refl
    by_own (x ∷ xs) =
        ap (λ (l : List GroupLimit).
        (record { name = base_of x.name; limit = x.maximum_size }) ∷ l) (by_own xs)

own_limit : (o : ℕ) (name : List ℕ) (gs : List Group)
    → is_of_slot o name ≡ true
    → limit_named (base_of name) (limits_of o gs) ≡ limit_of gs name
own_limit o name [] of = refl
own_limit o name (g ∷ gs) of = elim (cases_Bool (is_of_slot o g.name)) [
  | inl own ↦
      let same = base_eq o g.name name own of in
      elim (cases_Bool (bytes_eq g.name name)) [
        | inl t ↦ rw (own, same, t) refl
        | inr n ↦ rw (own, same, n) (own_limit o name gs of)
      ]
  | inr other ↦
      let no : bytes_eq g.name name ≡ false =
      ne_name g.name name
      (λ e. both_ways (is_of_slot o g.name) other (ap (is_of_slot o) e ∙ of)) in
      rw (other, no) (own_limit o name gs of)
]

-- the limit of a group in a state whose groups are those of the source
pub limit_same : (source o : ℕ) (groups : List GroupLimit) (ss ts : List Group) (name : List ℕ)
    → groups ≡ limits_of source ss
    → groups_of_slot source ss ≡ groups_of_slot o ts
    → limit_of ts default_name ≡ 0
    → IsOfSlot o name
    → limit_by groups (group_of name) ≡ limit_of ts name
limit_same source o groups ss ts name are same none (of_none e) =
    ap (limit_by groups) (none_is name e) ∙ sym (ap (limit_of ts) e ∙ none)
limit_same source o groups ss ts name are same none (of_own of) =
    let limits : groups ≡ limits_of o ts =
    are ∙ limits_are source ss ∙ ap (map limit_at) same ∙ sym (limits_are o ts) in
    ap (limit_by groups) (own_is o name of)
    ∙ ap (limit_named (base_of name)) limits
    ∙ own_limit o name ts of

-- ---- bytes

-- the entries in a group are those of the partitions in it
pub sizes_same : (group : List ℕ) (name : List ℕ) (n : ℕ) (entry : Part → PlanEntry)
    (ps : List Part)
    → ((p : Part)
    → Contains ps p
    → (same_group (entry p).group (group_of group) ≡ bytes_eq p.group group)
    × ((entry p).blocks ≡ cond (bytes_eq p.name name) n (length p.blocks)))
    → map {A = PlanEntry} (λ e. e.blocks)
    (filter {X = PlanEntry} (λ e. same_group e.group (group_of group)) (map entry ps))
    ≡ sizes_in group name n ps
sizes_same group name n entry [] each = refl
sizes_same group name n entry (p ∷ ps) each =
    let here = each p (first p ps) in
    let test = here.0 in
    let size = here.1 in
    let rest = sizes_same group name n entry ps (λ q c. each q (later p ps q c)) in
    elim (cases_Bool (bytes_eq p.group group)) [
      | inl t ↦ rw (test, t) (λ i. size i ∷ rest i)
      | inr f ↦ rw (test, f) rest
    ]

-- a partition of the target is in the group of no slot or in one of its slot
pub in_slot_group : (o : ℕ) (parts : List Part) (p : Part)
    → All (IsOwnPart o) (own_parts o parts)
    → Contains (own_parts o parts) p
    → IsOfSlot o p.group
in_slot_group o parts p each c =
    let is = (All-contains (IsOwnPart o) (own_parts o parts) p each c).group in
    elim (cases_Bool (bytes_eq p.group default_name)) [
      | inl t ↦ of_none (same_name p.group default_name t)
      | inr f ↦ of_own (let own : is_of_slot o p.group ≡ true = rw f at is in own)
    ]

-- the group of a name is that of the first partition of it
pub group_first : (name : List ℕ) (ps : List Part) (p : Part)
    → first_named name ps ≡ Some p
    → group_named name ps ≡ p.group
group_first name [] p is = absurd cc
group_first name (x ∷ xs) p is = elim (cases_Bool (bytes_eq x.name name)) [
  | inl t ↦
      let found : (let q : Option Part = Some x in q ≡ Some p) = rw t at is in
      let same : x ≡ p = cc in
      rw t (ap (λ (q : Part). q.group) same)
  | inr f ↦
      let rest : first_named name xs ≡ Some p = rw f at is in
      rw f (group_first name xs p rest)
]

pub group_own : (slot : ℕ) (name : List ℕ) (parts : List Part)
    → is_of_slot slot name ≡ true
    → group_named name (own_parts slot parts) ≡ group_named name parts
group_own slot name [] of = refl
group_own slot name (p ∷ ps) of = elim (cases_Bool (is_of_slot slot p.name)) [
  | inl own ↦
      rw own (ap (λ (l : List ℕ). cond (bytes_eq p.name name) p.group l)
      (group_own slot name ps of))
  | inr other ↦
      let no : bytes_eq p.name name ≡ false =
      ne_name p.name name
      (λ e. both_ways (is_of_slot slot p.name) other (ap (is_of_slot slot) e ∙ of)) in
      rw (other, no) (group_own slot name ps of)
]

-- ---- the group of a new partition

abbrev first_base : List (List ℕ × ℕ) → List ℕ
first_base [] = []
first_base (p ∷ ps) = p.0

first_same : (o : ℕ) (xs ys : List Group)
    → map {B = List ℕ × ℕ} (λ (g : Group). (base_of g.name, g.maximum_size)) xs
    ≡ map {B = List ℕ × ℕ} (λ (g : Group). (base_of g.name, g.maximum_size)) ys
    → ((y : Group) → Contains ys y → is_of_slot o y.name ≡ true)
    → group_of (first_of_slot ys)
    ≡ first_group
    (map {B = GroupLimit}
    (λ (g : Group). record { name = base_of g.name; limit = g.maximum_size }) xs)
first_same o [] [] same of = none_is default_name refl
first_same o [] (y ∷ ys) same of = absurd cc
first_same o (x ∷ xs) [] same of = absurd cc
first_same o (x ∷ xs) (y ∷ ys) same of =
    own_is o y.name (of y (first y ys)) ∙ ap (λ (n : List ℕ). Some n) (sym (ap first_base same))

pub first_is : (source o : ℕ) (groups : List GroupLimit) (ss ts : List Group)
    → groups ≡ limits_of source ss
    → groups_of_slot source ss ≡ groups_of_slot o ts
    → group_of (first_of_slot (own_groups o ts)) ≡ first_group groups
first_is source o groups ss ts are same =
    first_same o (own_groups source ss) (own_groups o ts) same
    (λ y c. (of_filter (λ (g : Group). is_of_slot o g.name) ts y c).1)
    ∙ sym (ap first_group are)

first_among : (o : ℕ) (xs : List Group)
    → ((x : Group) → Contains xs x → is_of_slot o x.name ≡ true)
    → IsOfSlot o (first_of_slot xs)
first_among o [] of = of_none refl
first_among o (x ∷ xs) of = of_own (of x (first x xs))

pub first_in_slot : (o : ℕ) (ts : List Group) → IsOfSlot o (first_of_slot (own_groups o ts))
first_in_slot o ts =
    first_among o (own_groups o ts)
    (λ y c. (of_filter (λ (g : Group). is_of_slot o g.name) ts y c).1)

same_itself : (g : Option (List ℕ)) → same_group g g ≡ true
same_itself None = refl
same_itself (Some name) = eq_name name name refl

-- an entry more, in the group
pub pushed : (g : Option (List ℕ)) (e : PlanEntry) (es : List PlanEntry)
    → e.group ≡ g
    → map {A = PlanEntry} (λ x. x.blocks)
    (filter {X = PlanEntry} (λ x. same_group x.group g) (es ++ e ∷ []))
    ≡ map {A = PlanEntry} (λ x. x.blocks)
    (filter {X = PlanEntry} (λ x. same_group x.group g) es)
    ++ e.blocks ∷ []
pushed g e [] is =
    let same : same_group e.group g ≡ true =
    ap (λ (x : Option (List ℕ)). same_group x g) is ∙ same_itself g in
    rw same refl
pushed g e (x ∷ xs) is =
    let rest = pushed g e xs is in
    elim (cases_Bool (same_group x.group g)) [
      | inl t ↦ rw t (ap (λ (l : List ℕ). x.blocks ∷ l) rest)
      | inr f ↦ rw f rest
    ]
