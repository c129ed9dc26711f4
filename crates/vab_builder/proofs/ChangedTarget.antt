-- A target of which one partition is changed.
use Rattle.std.proofs.Common.{◌≡◌, ◌≢◌, ℕ, ◌+◌, ◌≤◌, Bool, true, false, cond, List, [], ◌∷◌, ◌++◌}
use Rattle.std.proofs.Common.{sum_by, refl, sym, ap, subst, ◌∙◌, inl, inr, arith}
use Rattle.std.specs.Prelude.{All, AllPairs, Contains, IsTrue}
use Rattle.std.specs.Str.{bytes_eq}
use Rattle.std.specs.List.{filter}
use Rattle.std.proofs.lemmas.Bool.{cases_Bool, both_ways}
use Rattle.std.proofs.lemmas.List.Kept.{AllPairs-filter}
use Rattle.std.proofs.lemmas.List.{length-map}
use Rattle.std.proofs.lemmas.List.Elements.{All-contains, Contains-append_left}
use Rattle.std.proofs.lemmas.List.Elements.{Contains-append_right, Contains-append_cases}
use Rattle.std.proofs.lemmas.List.Sums.{sum_by-cons}
use Rattle.vab_names.specs.Names.{is_of_slot, is_store, store_of}
use Rattle.vab_tables.specs.Rules.{NamesDiffer}
use Rattle.vab_layout.specs.declared.layout.Part.{Part}
use Rattle.vab_layout.specs.Layout.{blocks_of_parts}
use Rattle.vab_layout.specs.Slots.{own_parts, store_parts, is_updated, IsDistinct, IsOwnPart}
use Rattle.vab_layout.specs.Slots.{IsTargetBeside, IsTargetPartBeside, IsStorePart}
use Rattle.vab_builder.specs.Edits.{changed}
use Rattle.vab_blocks.proofs.Contained.{all_from, first, later, cons_cases, none_in_nil, of_filter}
use Rattle.vab_builder.proofs.Counting.{pairs_head, pairs_tail}
use Rattle.vab_blocks.proofs.Contained.{in_map, of_map, in_piece}
use Rattle.vab_builder.proofs.Counting.{pairs_right, pairs_across, pairs_append, pairs_map}
use Rattle.vab_builder.proofs.Counting.{pairs_weaker, Apart, apart_parts, once_pieces, pieces_once}
use Rattle.vab_builder.proofs.Counting.{pieces_apart}
use Rattle.vab_names.proofs.NameCases.{same_name, eq_name, ne_name, own_or_store}
use Rattle.vab_builder.proofs.KeepLaws.{target_made, target_part_among, store_part_among}

-- a change that leaves names alone
abbrev pub KeepsNames : (Part → Part) → Type 0
KeepsNames f = (p : Part) → (f p).name ≡ p.name

abbrev pub either : List ℕ → (Part → Part) → Part → Part
either name f p = cond (bytes_eq p.name name) (f p) p

pub either_name : (name : List ℕ) (f : Part → Part) (p : Part) → KeepsNames f
    → (either name f p).name ≡ p.name
either_name name f p names =
    elim (cases_Bool (bytes_eq p.name name)) [ inl e ↦ rw e (names p) | inr ne ↦ rw ne refl ]

pub either_by : (name : List ℕ) (f : Part → Part) (Q : Part → Type 0) (p : Part)
    → (p.name ≡ name → Q (f p)) → ((p.name ≡ name → ⊥) → Q p) → Q (either name f p)
either_by name f Q p here there = elim (cases_Bool (bytes_eq p.name name)) [
  | inl e ↦ rw e (here (same_name p.name name e))
  | inr ne ↦ rw ne (there (λ e. both_ways (bytes_eq p.name name) ne (eq_name p.name name e)))
]

filter_changed : (t : List ℕ → Bool) (name : List ℕ) (f : Part → Part) (parts : List Part)
    → KeepsNames f
    → filter (λ p. t p.name) (changed name f parts) ≡ changed name f (filter (λ p. t p.name) parts)
filter_changed t name f [] names = refl
filter_changed t name f (p ∷ ps) names =
    let rest = filter_changed t name f ps names in
    let same = ap t (either_name name f p names) in
    elim (cases_Bool (t p.name)) [
      | inl passes ↦ rw (same, passes) (ap (λ (l : List Part). either name f p ∷ l) rest)
      | inr fails ↦ rw (same, fails) rest
    ]

pub changed_own : (slot : ℕ) (name : List ℕ) (f : Part → Part) (parts : List Part) → KeepsNames f
    → own_parts slot (changed name f parts) ≡ changed name f (own_parts slot parts)
changed_own slot name f parts names = filter_changed (is_of_slot slot) name f parts names

pub changed_absent : (name : List ℕ) (f : Part → Part) (parts : List Part)
    → ((q : Part) → Contains parts q → q.name ≡ name → ⊥) → changed name f parts ≡ parts
changed_absent name f [] none = refl
changed_absent name f (p ∷ ps) none =
    let other : bytes_eq p.name name ≡ false = ne_name p.name name (none p (first p ps)) in
    rw other
    (ap (λ (l : List Part). p ∷ l)
    (changed_absent name f ps (λ q c e. none q (later p ps q c) e)))

pub changed_stores : (slot : ℕ) (name : List ℕ) (f : Part → Part) (parts : List Part) → KeepsNames f
    → is_of_slot slot name ≡ true → store_parts slot (changed name f parts) ≡ store_parts slot parts
changed_stores slot name f parts names of =
    filter_changed (is_store slot) name f parts names
    ∙ changed_absent name f (store_parts slot parts)
    (λ q c e. own_or_store slot slot q.name (ap (is_of_slot slot) e
    ∙ of) (of_filter (λ p. is_store slot p.name) parts q c).1)

pub changed_differ : (name : List ℕ) (f : Part → Part) (parts : List Part) → KeepsNames f
    → NamesDiffer (λ p. p.name) parts → NamesDiffer (λ p. p.name) (changed name f parts)
changed_differ name f parts names differ =
    pairs_map (λ a b. a.name ≢ b.name) (either name f) parts
    (pairs_weaker (λ a b. a.name ≢ b.name) (λ a b. (either name f a).name ≢ (either name f b).name)
    parts (λ x y c d ne e. ne (sym (either_name name f x names) ∙ e
    ∙ either_name name f y names)) differ)

pub changed_all : (name : List ℕ) (f : Part → Part) (Q : Part → Type 0) (parts : List Part)
    → ((p : Part) → Contains parts p → p.name ≡ name → Q (f p))
    → ((p : Part) → Contains parts p → Q p) → All Q (changed name f parts)
changed_all name f Q parts here there = all_from Q (changed name f parts) (λ x c.
    let r = of_map (either name f) parts x c in
    subst Q r.2 (either_by name f Q r.0 (λ e. here r.0 r.1 e) (λ ne. there r.0 r.1)))

pub changed_no_name : (name m : List ℕ) (f : Part → Part) (parts : List Part) → KeepsNames f
    → All (λ s. s.name ≢ m) parts → All (λ s. s.name ≢ m) (changed name f parts)
changed_no_name name m f parts names none =
    changed_all name f (λ s. s.name ≢ m) parts
    (λ p c e same. All-contains (λ s. s.name ≢ m) parts p none c (sym (names p) ∙ same))
    (λ p c. All-contains (λ s. s.name ≢ m) parts p none c)

-- two partitions of other names have no block together
pub apart_pair : (parts : List Part) (p q : Part) → IsDistinct (blocks_of_parts parts)
    → Contains parts p → Contains parts q → (p.name ≡ q.name → ⊥) → Apart p.blocks q.blocks
apart_pair [] p q once c d ne = absurd (none_in_nil p c)
apart_pair (x ∷ xs) p q once c d ne =
    let across = apart_parts x.blocks (blocks_of_parts xs) once in
    let rest = pairs_right (λ a b. a ≢ b) x.blocks (blocks_of_parts xs) once in
    elim (cons_cases x xs p c) [
      | inl xp ↦ elim (cons_cases x xs q d) [
        | inl xq ↦ absurd (ne (ap (λ (r : Part). r.name) (sym xp ∙ xq)))
        | inr in-q ↦
            λ b hp hq. across b (subst (λ (r : Part). Contains r.blocks b) (sym xp) hp)
            (in_piece (λ r. r.blocks) xs q b in-q hq)
      ]
      | inr in-p ↦ elim (cons_cases x xs q d) [
        | inl xq ↦
            λ b hp hq. across b (subst (λ (r : Part). Contains r.blocks b) (sym xq) hq)
            (in_piece (λ r. r.blocks) xs p b in-p hp)
        | inr in-q ↦ apart_pair xs p q rest in-p in-q ne
      ]
    ]

-- ---- the target

pub record ChangesWell (slot : ℕ) (twins source parts : List Part) (name : List ℕ) (f : Part
    → Part) (p : Part) : Type 0 where
  pub own : IsOwnPart slot (f p)
  pub part : IsTargetPartBeside slot twins source (changed name f parts) (f p)
  pub once : IsDistinct (f p).blocks
  pub apart : (q : Part) → Contains (own_parts slot parts ++ store_parts slot parts) q
      → (q.name ≡ name → ⊥) → Apart q.blocks (f p).blocks

pieces_changed : (slot : ℕ) (twins source parts : List Part) (name : List ℕ) (f : Part → Part)
    → is_of_slot slot name ≡ true → NamesDiffer (λ p. p.name) parts
    → IsDistinct (blocks_of_parts (own_parts slot parts ++ store_parts slot parts))
    → ((p : Part) → Contains (own_parts slot parts) p → p.name ≡ name
    → ChangesWell slot twins source parts name f p)
    → IsDistinct (blocks_of_parts (changed name f (own_parts slot parts) ++ store_parts slot parts))
pieces_changed slot twins source parts name f of differ once well =
    let own : List Part = own_parts slot parts in
    let stores : List Part = store_parts slot parts in
    let g : Part → Part = either name f in
    let blocks : Part → List ℕ = λ p. p.blocks in
    let R : Part → Part → Type 0 = λ x y. Apart x.blocks y.blocks in
    let all = pieces_once blocks (own ++ stores) once in
    let each : All (λ p. IsDistinct p.blocks) (changed name f own ++ stores) =
    all_from (λ p. IsDistinct p.blocks) (changed name f own ++ stores)
    (λ x h. elim (Contains-append_cases (changed name f own) stores x h) [
      | inl mine ↦
          All-contains (λ p. IsDistinct p.blocks) (changed name f own) x
          (changed_all name f (λ p. IsDistinct p.blocks) own (λ p c e. (well p c e).once)
          (λ p c. All-contains (λ q. IsDistinct q.blocks) (own ++ stores) p all
          (Contains-append_left own stores p c))) mine
      | inr store ↦
          All-contains (λ p. IsDistinct p.blocks) (own ++ stores) x all
          (Contains-append_right own stores x store)
    ]) in
    let own-differ =
    AllPairs-filter (λ a b. a.name ≢ b.name) (λ p. is_of_slot slot p.name) parts differ in
    let mine : AllPairs (λ x y. R (g x) (g y)) own =
    pairs_weaker (λ a b. a.name ≢ b.name) (λ x y. R (g x) (g y)) own (λ x y hx hy ne.
    either_by name f (λ x'. R x' (g y)) x
    (λ xn. either_by name f (λ y'. R (f x) y') y
    (λ yn. absurd (ne (xn ∙ sym yn)))
    (λ other b c d. (well x hx xn).apart y (Contains-append_left own stores y hy) other b d c))
    (λ xo. either_by name f (λ y'. R x y') y
    (λ yn. (well y hy yn).apart x (Contains-append_left own stores x hx) xo)
    (λ yo. apart_pair (own ++ stores) x y once (Contains-append_left own stores x hx)
    (Contains-append_left own stores y hy) ne))) own-differ in
    let stores-apart = pairs_right R own stores (pieces_apart blocks (own ++ stores) once) in
    let across : (x y : Part) → Contains (changed name f own) x → Contains stores y
    → R x y = λ x y hx hy.
    let r = of_map g own x hx in
    let in-own = Contains-append_left own stores r.0 r.1 in
    let in-stores = Contains-append_right own stores y hy in
    let y-other : y.name ≡ name
    → ⊥ = λ e. own_or_store slot slot y.name (ap (is_of_slot slot) e
    ∙ of) (of_filter (λ p. is_store slot p.name) parts y hy).1 in
    subst (λ (x' : Part). R x' y) r.2 (either_by name f (λ x'. R x' y) r.0
    (λ e b c d. (well r.0 r.1 e).apart y in-stores y-other b d c)
    (λ ne. pairs_across R own stores r.0 y (pieces_apart blocks (own ++ stores) once) r.1 hy)) in
    once_pieces blocks (changed name f own ++ stores) each
    (pairs_append R (changed name f own) stores (pairs_map R g own mine) stores-apart across)

pub target_changed : (slot : ℕ) (twins source parts : List Part) (name : List ℕ) (f : Part → Part)
    → KeepsNames f → ((p : Part) → IsTrue (is_updated p) → IsTrue (is_updated (f p)))
    → is_of_slot slot name ≡ true → NamesDiffer (λ p. p.name) parts
    → IsTargetBeside slot twins source parts
    → ((p : Part) → Contains (own_parts slot parts) p → p.name ≡ name
    → ChangesWell slot twins source parts name f p)
    → IsTargetBeside slot twins source (changed name f parts)
target_changed slot twins source parts name f names stays of differ is well =
    let own : List Part = own_parts slot parts in
    let stores : List Part = store_parts slot parts in
    let after : List Part = changed name f parts in
    let own-is = changed_own slot name f parts names in
    let stores-are = changed_stores slot name f parts names of in
    target_made slot twins source after
    (rw own-is
    (changed_all name f (IsOwnPart slot) own (λ p c e. (well p c e).own)
    (λ p c. All-contains (IsOwnPart slot) own p is.own.each c)))
    (rw own-is (omega (arith, length-map own (either name f), is.own.few)))
    (rw own-is
    (changed_all name f (IsTargetPartBeside slot twins source after) own
    (λ p c e. (well p c e).part)
    (λ p c. target_part_among slot twins source parts after p
    (All-contains (IsTargetPartBeside slot twins source parts) own p is.each c)
    (λ none. changed_no_name name (store_of p.name) f parts names none))))
    (rw stores-are
    (all_from (IsStorePart slot source after) stores
    (λ s h. store_part_among slot source parts after s
    (All-contains (IsStorePart slot source parts) stores s is.stores h) (λ a.
    let in-own : Contains own a.1 = (a.0, a.2, a.3) in
    let x : Part = either name f a.1 in
    let there = in_map (either name f) own a.1 in-own in
    let told : (s.name ≡ store_of x.name) × IsTrue (is_updated x) = (
      a.4.0 ∙ ap store_of (sym (either_name name f a.1 names)),
      either_by name f
          (λ p. IsTrue (is_updated p)) a.1 (λ e. stays a.1 a.4.1) (λ ne. a.4.1),
    ) in
    rw own-is (there.0, x, there.1, there.2, told)))))
    (rw (own-is, stores-are) (pieces_changed slot twins source parts name f of differ is.once well))

-- the partitions of a name grow by so much at most
pub changed_sum : (name : List ℕ) (f : Part → Part) (size : Part → ℕ) (m : ℕ) (parts : List Part)
    → NamesDiffer (λ p. p.name) parts
    → ((p : Part) → Contains parts p → p.name ≡ name → size (f p) ≤ m)
    → sum_by size (changed name f parts) ≤ sum_by size parts + m
changed_sum name f size m [] differ small = omega arith
changed_sum name f size m (p ∷ ps) differ small =
    let tail = pairs_tail (λ a b. a.name ≢ b.name) p ps differ in
    let head = pairs_head (λ a b. a.name ≢ b.name) p ps differ in
    let rest = changed_sum name f size m ps tail (λ q c e. small q (later p ps q c) e) in
    elim (cases_Bool (bytes_eq p.name name)) [
      | inl named ↦
          let e = same_name p.name name named in
          let few = small p (first p ps) e in
          let same =
          changed_absent name f ps
          (λ q c en. All-contains (λ b. p.name ≢ b.name) ps q head c (e ∙ sym en)) in
          rw (named, same) (omega (arith, few, sum_by-cons size (f p) ps, sum_by-cons size p ps))
      | inr other ↦
          rw other
          (omega (arith, rest, sum_by-cons size p (changed name f ps), sum_by-cons size p ps))
    ]
