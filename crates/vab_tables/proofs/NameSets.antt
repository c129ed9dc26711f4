-- Names that are kept in their order beside the entries that have them.
use Rattle.std.proofs.Common.{◌≡◌, ℕ, Bool, true, false, ◌||◌, ◌&&◌, List, [], ◌∷◌}
use Rattle.std.proofs.Common.{◌++◌, Option, Some, None, Ok, Err, refl, sym}
use Rattle.std.proofs.Common.{ap, subst, ◌∙◌, inl, inr}
use Rattle.std.specs.Prelude.{All}
use Rattle.std.specs.List.{list_any}
use Rattle.std.specs.Str.{bytes_eq}
use Rattle.std.specs.Ordering.{nat_cmp, is_eq, match_ordering}
use Rattle.std.specs.declared.cmp.Ordering.{Ordering}
use Rattle.std.specs.declared.cmp.Ordering.TheVariants.{Less, Equal, Greater}
use Rattle.std.specs.Cmp.Lexicographic.{slice_cmp}
use Rattle.std.specs.BTreeSet.{insert_key}
use Rattle.std.proofs.lemmas.Bool.{cases_Bool, both_ways}
use Rattle.std.proofs.lemmas.List.Elements.{All-nil, All-cons, All-head, All-tail, All-append}
use Rattle.std.proofs.lemmas.List.Folds.{list_any-append}
use Rattle.std.proofs.lemmas.Map.Text.{is_eq-slice_cmp}
use Rattle.std.proofs.lemmas.Slice.Eq.{bytes_eq-Decides}
use Rattle.vab_bytes.specs.Name.{name_field, name_of_field, IsName}
use Rattle.vab_bytes.proofs.NameLaws.{only_name}
use Rattle.vab_tables.specs.Rules.{is_named}
use Rattle.vab_tables.specs.declared.fault.TableFault.{TableFault}
use Rattle.vab_tables.specs.declared.fault.TableFault.TheVariants as faults
use Rattle.vab_tables.specs.Reading.{Fails, entry_or}

-- ---- a set of fields

any_congr : {X : Type 0} (p q : X → Bool) (xs : List X)
    → ((x : X) → p x ≡ q x)
    → list_any p xs ≡ list_any q xs
any_congr p q [] same = refl
any_congr p q (x ∷ xs) same =
    ap (λ (b : Bool). b || list_any p xs) (same x)
    ∙ ap (λ (b : Bool). q x || b) (any_congr p q xs same)

-- what a set answers of a field
pub is_known : (field : List ℕ) (keys : List (List ℕ))
    → list_any (λ k. is_eq (slice_cmp nat_cmp field k)) keys
    ≡ list_any (λ k. bytes_eq field k) keys
is_known field keys =
    any_congr (λ k. is_eq (slice_cmp nat_cmp field k)) (λ k. bytes_eq field k) keys
    (λ k. is_eq-slice_cmp field k)

or_last : (a b c : Bool) → (a || (b || c)) ≡ ((b || c) || a)
or_last true true c = refl
or_last true false true = refl
or_last true false false = refl
or_last false true c = refl
or_last false false true = refl
or_last false false false = refl

or_same : (a b : Bool) → (a || b) ≡ ((a || b) || a)
or_same true b = refl
or_same false true = refl
or_same false false = refl

or_inner : (a b c : Bool) → (a || (b || c)) ≡ ((a || b) || c)
or_inner true b c = refl
or_inner false b c = refl

or_none : (a : Bool) → (a || false) ≡ (false || a)
or_none true = refl
or_none false = refl

or_none_back : (a : Bool) → a ≡ (a || false)
or_none_back true = refl
or_none_back false = refl

place : (p : List ℕ → Bool) (x key : List ℕ) (xs inner : List (List ℕ)) (o : Ordering)
    → slice_cmp nat_cmp key x ≡ o
    → list_any p inner ≡ (list_any p xs || p key)
    → list_any p (match_ordering o (key ∷ x ∷ xs) (x ∷ xs) (x ∷ inner))
    ≡ (list_any p (x ∷ xs) || p key)
place p x key xs inner Less e rest = or_last (p key) (p x) (list_any p xs)
place p x key xs inner Equal e rest =
    let equal : bytes_eq key x ≡ true = sym (is_eq-slice_cmp key x) ∙ ap is_eq e in
    let same : key ≡ x = (bytes_eq-Decides key x).0 equal in
    or_same (p x) (list_any p xs)
    ∙ ap (λ (k : List ℕ). (p x || list_any p xs) || p k) (sym same)
place p x key xs inner Greater e rest =
    ap (λ (b : Bool). p x || b) rest ∙ or_inner (p x) (list_any p xs) (p key)

-- a field at its place among others
pub known_more : (p : List ℕ → Bool) (keys : List (List ℕ)) (key : List ℕ)
    → list_any p (insert_key (slice_cmp nat_cmp) keys key) ≡ (list_any p keys || p key)
known_more p [] key = or_none (p key)
known_more p (x ∷ xs) key =
    place p x key xs (insert_key (slice_cmp nat_cmp) xs key) (slice_cmp nat_cmp key x) refl
    (known_more p xs key)

-- ---- names and their fields

-- two names with one field are one
pub field_once : (a b : List ℕ) → IsName a → IsName b → name_field a ≡ name_field b → a ≡ b
field_once a b na nb e =
    let first : name_of_field (name_field a) ≡ Some a = only_name (name_field a) a na refl in
    let second : name_of_field (name_field a) ≡ Some b = only_name (name_field a) b nb e in
    cc

same_test : (a b : List ℕ) → IsName a → IsName b
    → bytes_eq (name_field b) (name_field a) ≡ bytes_eq a b
same_test a b na nb = elim (cases_Bool (bytes_eq a b)) [
  | inl t ↦
      let e : a ≡ b = (bytes_eq-Decides a b).0 t in
      (bytes_eq-Decides (name_field b) (name_field a)).1 (ap name_field (sym e)) ∙ sym t
  | inr f ↦ elim (cases_Bool (bytes_eq (name_field b) (name_field a))) [
    | inl t ↦
        let e = field_once b a nb na ((bytes_eq-Decides (name_field b) (name_field a)).0 t) in
        absurd (both_ways (bytes_eq a b) f ((bytes_eq-Decides a b).1 (sym e)))
    | inr g ↦ g ∙ sym f
  ]
]

-- ---- the fields beside the entries that have them

pub record Knows {E : Type 0} (name : E
    → List ℕ) (keys : List (List ℕ)) (earlier : List E) : Type 0 where
  pub named : All (λ e. IsName (name e)) earlier
  pub listed : (field : List ℕ)
      → list_any (λ k. bytes_eq field k) keys
      ≡ list_any (λ e. bytes_eq field (name_field (name e))) earlier

pub knows_none : {E : Type 0} (name : E → List ℕ) (keys : List (List ℕ)) (earlier : List E)
    → keys ≡ []
    → earlier ≡ []
    → Knows name keys earlier
knows_none {E} name keys earlier none nil = record {
  named = subst (All (λ e. IsName (name e))) (sym nil) (All-nil (λ e. IsName (name e)));
  listed = λ field.
      ap (list_any (λ k. bytes_eq field k)) none
      ∙ ap (list_any (λ e. bytes_eq field (name_field (name e)))) (sym nil);
}

pub knows_more : {E : Type 0} (name : E
    → List ℕ) (keys more : List (List ℕ)) (earlier all : List E) (e : E)
    → Knows name keys earlier
    → IsName (name e)
    → ((field : List ℕ)
    → list_any (λ k. bytes_eq field k) more
    ≡ (list_any (λ k. bytes_eq field k) keys || bytes_eq field (name_field (name e))))
    → all ≡ earlier ++ e ∷ []
    → Knows name more all
knows_more {E} name keys more earlier all e k is added joined =
    let P : E → Type 0 = λ x. IsName (name x) in
    record {
      named = subst (All P) (sym joined)
          (All-append P earlier (e ∷ []) k.named (All-cons P e [] is (All-nil P)));
      listed = λ field.
          let test : E → Bool = λ x. bytes_eq field (name_field (name x)) in
          added field
          ∙ ap (λ (b : Bool). b || test e) (k.listed field)
          ∙ ap (λ (b : Bool). list_any test earlier || b) (or_none_back (test e))
          ∙ sym (list_any-append test earlier (e ∷ []))
          ∙ ap (list_any test) (sym joined);
    }

all_same : {E : Type 0} (name : E → List ℕ) (earlier : List E) (text : List ℕ)
    → All (λ e. IsName (name e)) earlier
    → IsName text
    → list_any (λ e. bytes_eq (name_field text) (name_field (name e))) earlier
    ≡ list_any (λ e. bytes_eq (name e) text) earlier
all_same name [] text named is = refl
all_same {E} name (e ∷ es) text named is =
    let P : E → Type 0 = λ x. IsName (name x) in
    let far : E → Bool = λ x. bytes_eq (name_field text) (name_field (name x)) in
    ap (λ (b : Bool). b || list_any far es) (same_test (name e) text (All-head P e es named) is)
    ∙ ap (λ (b : Bool). bytes_eq (name e) text || b)
    (all_same name es text (All-tail P e es named) is)

-- whether a name stands among the entries
pub knows_name : {E : Type 0} (name : E
    → List ℕ) (keys : List (List ℕ)) (earlier : List E) (text : List ℕ)
    → Knows name keys earlier
    → IsName text
    → list_any (λ k. bytes_eq (name_field text) k) keys ≡ is_named name earlier text
unfolding is_named
knows_name {E} name keys earlier text k is =
    k.listed (name_field text) ∙ all_same name earlier text k.named is

-- ---- an entry beside those before it

narrower_err : {E : Type 0} (fault e : TableFault) (p q : E → Bool) (read : Option E)
    → entry_or fault p read ≡ Err e
    → entry_or fault (λ x. p x && q x) read ≡ Err e
narrower_err fault e p q None h = h
narrower_err {E} fault e p q (Some x) h = elim (cases_Bool (p x)) [
  | inl t ↦
      let ok : entry_or fault p (Some x) ≡ Ok x = rw t refl in
      absurd cc
  | inr f ↦ rw f (rw f at h)
]

-- one that fails alone fails beside the others
pub narrower_fails : {E : Type 0} (fault e : TableFault) (p q : E → Bool) (read : Option E)
    → Fails e (entry_or fault p read)
    → Fails e (entry_or fault (λ x. p x && q x) read)
narrower_fails fault faults.NoMemory p q read h = tt
narrower_fails fault e p q read h = narrower_err fault e p q read h

pub narrower_ok : {E : Type 0} (fault : TableFault) (p q : E → Bool) (read : Option E) (x : E)
    → entry_or fault p read ≡ Ok x
    → q x ≡ true
    → entry_or fault (λ y. p y && q y) read ≡ Ok x
narrower_ok fault p q None x h t = absurd cc
narrower_ok {E} fault p q (Some y) x h t = elim (cases_Bool (p y)) [
  | inl py ↦
      let found : entry_or fault p (Some y) ≡ Ok y = rw py refl in
      let same : y ≡ x = cc in
      let qy : q y ≡ true = ap q same ∙ t in
      rw (py, qy) (ap (λ (z : E). Ok z) same)
  | inr ny ↦
      let lost : entry_or fault p (Some y) ≡ Err fault = rw ny refl in
      absurd cc
]

pub narrower_bad : {E : Type 0} (fault : TableFault) (p q : E → Bool) (read : Option E) (x : E)
    → entry_or fault p read ≡ Ok x
    → q x ≡ false
    → entry_or fault (λ y. p y && q y) read ≡ Err fault
narrower_bad fault p q None x h f = absurd cc
narrower_bad {E} fault p q (Some y) x h f = elim (cases_Bool (p y)) [
  | inl py ↦
      let found : entry_or fault p (Some y) ≡ Ok y = rw py refl in
      let same : y ≡ x = cc in
      let qy : q y ≡ false = ap q same ∙ f in
      rw (py, qy) refl
  | inr ny ↦ rw ny refl
]
