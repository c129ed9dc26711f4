-- What stands before the first byte of a kind, and the texts that stand before a word's `=`.
use Rattle.std.proofs.Common.{◌≡◌, ◌≢◌, ◌∙◌, ℕ, ◌+◌, ◌<◌, ◌≤◌, Bool, true, false, List, []}
use Rattle.std.proofs.Common.{◌∷◌, ◌++◌, length, get_or, take, drop, Option, Some, None, refl, sym}
use Rattle.std.proofs.Common.{ap}
use Rattle.std.proofs.Common.{inl, inr, append_assoc, append-nil, length-append, arith}
use Rattle.std.specs.Prelude.{All}
use Rattle.std.specs.List.{position_or_len, before_first, after_first}
use Rattle.std.proofs.Math.ListN.{get_or-append}
use Rattle.std.proofs.Math.Seq.{get_or-append_seam}
use Rattle.std.proofs.lemmas.List.{take_at, drop_at, get_or-take, length-take}
use Rattle.std.proofs.lemmas.List.Elements.{All-nil, All-cons, All-head, All-tail, All-weaker}
use Rattle.std.proofs.lemmas.List.Sums.{split_at_first, passes_at_first, fails_before_first}
use Rattle.std.proofs.lemmas.List.Sums.{position_or_len_is}
use Rattle.std.proofs.lemmas.Bool.{cases_Bool, ltb-false, ltb-true, le-ltb, lt-ltb, both_ways}
use Rattle.std.proofs.lemmas.Bool.{false_from_ne_true, eqb-true}
use Rattle.vab_pack.specs.Front.{Front, HasFront, is_colon, has_colon, with_options}
use Rattle.vab_pack.specs.Front.{front_of}

-- ---- elements that pass

pub passes_none : {X : Type 0} (p : X → Bool) (xs : List X)
    → length xs ≤ position_or_len p xs
    → All (λ x. p x ≡ false) xs
passes_none {X} p [] le = All-nil (λ (x : X). p x ≡ false)
passes_none {X} p (x ∷ xs) le = elim (cases_Bool (p x)) [
  | inl passes ↦
      let z : position_or_len p (x ∷ xs) ≡ 0 = rw passes refl in
      absurd (omega arith)
  | inr fails ↦
      let z : position_or_len p (x ∷ xs) ≡ 1 + position_or_len p xs = rw fails refl in
      All-cons (λ (x : X). p x ≡ false) x xs fails (passes_none p xs (omega arith))
]

pub none_passes : {X : Type 0} (p : X → Bool) (xs : List X)
    → All (λ x. p x ≡ false) xs
    → length xs ≤ position_or_len p xs
none_passes {X} p [] none = omega arith
none_passes {X} p (x ∷ xs) none =
    let no : p x ≡ false = All-head (λ (x : X). p x ≡ false) x xs none in
    let z : position_or_len p (x ∷ xs) ≡ 1 + position_or_len p xs = rw no refl in
    omega (arith, z, none_passes p xs (All-tail (λ (x : X). p x ≡ false) x xs none))

-- ---- the first colon

abbrev NoColon : List ℕ → Type 0
NoColon text = All (λ b. b ≢ 58) text

fails_each : (text : List ℕ) → NoColon text → All (λ b. is_colon b ≡ false) text
fails_each text none =
    All-weaker (λ (b : ℕ). b ≢ 58) (λ (b : ℕ). is_colon b ≡ false)
    (λ b ne. false_from_ne_true (is_colon b) (λ t. ne (eqb-true b 58 t))) text none

none_each : (text : List ℕ) → All (λ b. is_colon b ≡ false) text → NoColon text
none_each text fails =
    All-weaker (λ (b : ℕ). is_colon b ≡ false) (λ (b : ℕ). b ≢ 58)
    (λ b no e. both_ways (is_colon b) no (ap is_colon e)) text fails

whole_found : (text : List ℕ)
    → has_colon text ≡ true
    → text ≡ before_first is_colon text ++ 58 ∷ after_first is_colon text
unfolding has_colon
whole_found text some =
    let inside : position_or_len is_colon text < length text = ltb-true _ _ some in
    let byte : get_or text (position_or_len is_colon text) 0 ≡ 58 =
    eqb-true _ 58 (passes_at_first is_colon text 0 inside) in
    split_at_first is_colon text 0 inside
    ∙ ap (λ (b : ℕ). before_first is_colon text ++ b ∷ after_first is_colon text) byte

before_found : (text : List ℕ) → NoColon (before_first is_colon text)
before_found text k d lt e =
    let at : ℕ = position_or_len is_colon text in
    let below : k < at = omega (arith, lt, length-take at text) in
    let here : get_or (take at text) k d ≡ get_or text k d = get_or-take at text k d below in
    both_ways (is_colon (get_or text k d)) (fails_before_first is_colon text k d below)
    (ap is_colon (sym here ∙ e))

none_found : (text : List ℕ) → has_colon text ≡ false → NoColon text
unfolding has_colon
none_found text lacks =
    none_each text (passes_none is_colon text (ltb-false _ _ lacks))

no_colon : (text : List ℕ) → NoColon text → has_colon text ≡ false
unfolding has_colon
no_colon text none = le-ltb _ _ (none_passes is_colon text (fails_each text none))

module _ (front back : List ℕ) (none : NoColon front) where
  abbrev joined : List ℕ
  joined = front ++ 58 ∷ back

  at_front : position_or_len is_colon joined ≡ length front
  at_front =
      position_or_len_is is_colon joined (length front) 0
      (omega (arith, length-append front (58 ∷ back)))
      (λ k lt. ap is_colon (get_or-append front (58 ∷ back) 0 k lt) ∙ fails_each front none k 0 lt)
      (λ lt. ap is_colon (get_or-append_seam front 58 back 0))

  pub has_one : has_colon joined ≡ true
  unfolding has_colon
  has_one = lt-ltb _ _ (omega (arith, at_front, length-append front (58 ∷ back)))

  pub before_is : before_first is_colon joined ≡ front
  before_is = rw at_front (take_at front (58 ∷ back) (length front) refl)

  pub after_is : after_first is_colon joined ≡ back
  after_is =
      let regrouped : joined ≡ (front ++ 58 ∷ []) ++ back =
      sym (append_assoc front (58 ∷ []) back) in
      rw at_front
      (ap (drop (length front + 1)) regrouped
      ∙ drop_at (front ++ 58 ∷ []) back (length front + 1)
      (omega (arith, length-append front (58 ∷ []))))

-- ---- what is found is what the text spells

options_have : (text name options : List ℕ)
    → text ≡ name ++ 58 ∷ options
    → NoColon name
    → HasFront text (with_options name options)
unfolding with_options
options_have text name options whole none = elim (cases_Bool (has_colon options)) [
  | inl some ↦
      let size : List ℕ = before_first is_colon options in
      let store : List ℕ = after_first is_colon options in
      rw some (record {
        whole = whole ∙ ap (λ (l : List ℕ). name ++ 58 ∷ l) (whole_found options some)
            ∙ sym (append_assoc name (58 ∷ size) (58 ∷ store));
        name = none;
        size = before_found options;
        order = λ e. absurd cc;
      })
  | inr lacks ↦ rw lacks (record {
    whole = whole ∙ sym (append-nil (name ++ 58 ∷ options));
    name = none;
    size = none_found options lacks;
    order = λ e. refl;
  })
]

pub front_has : (text : List ℕ) → HasFront text (front_of text)
unfolding front_of
front_has text = elim (cases_Bool (has_colon text)) [
  | inl some ↦ rw some
      (options_have text (before_first is_colon text) (after_first is_colon text)
      (whole_found text some) (before_found text))
  | inr lacks ↦ rw lacks (record {
    whole = sym (append-nil text) ∙ sym (append-nil (text ++ []));
    name = none_found text lacks;
    size = tt;
    order = λ e. refl;
  })
]

-- ---- and what a text spells is found

front_plain : (name : List ℕ)
    → NoColon name
    → front_of name ≡ record { name = name; size = None; store = None }
unfolding front_of
front_plain name none = rw (no_colon name none) refl

front_with : (name options : List ℕ)
    → NoColon name
    → front_of (name ++ 58 ∷ options) ≡ with_options name options
unfolding front_of
front_with name options none =
    rw (has_one name options none, before_is name options none, after_is name options none) refl

options_one : (name size : List ℕ)
    → NoColon size
    → with_options name size ≡ record { name = name; size = Some size; store = None }
unfolding with_options
options_one name size none = rw (no_colon size none) refl

options_two : (name size store : List ℕ)
    → NoColon size
    → with_options name (size ++ 58 ∷ store)
    ≡ record { name = name; size = Some size; store = Some store }
unfolding with_options
options_two name size store none =
    rw (has_one size store none, before_is size store none, after_is size store none) refl

spelled : (text name : List ℕ) (size store : Option (List ℕ))
    → HasFront text (record { name = name; size = size; store = store })
    → front_of text ≡ record { name = name; size = size; store = store }
spelled text name None None is =
    ap front_of (is.whole ∙ append-nil (name ++ []) ∙ append-nil name) ∙ front_plain name is.name
spelled text name None (Some store) is = absurd (let e = is.order refl in cc)
spelled text name (Some size) None is =
    ap front_of (is.whole ∙ append-nil (name ++ 58 ∷ size))
    ∙ front_with name size is.name
    ∙ options_one name size is.size
spelled text name (Some size) (Some store) is =
    ap front_of (is.whole ∙ append_assoc name (58 ∷ size) (58 ∷ store))
    ∙ front_with name (size ++ 58 ∷ store) is.name
    ∙ options_two name size store is.size

pub has_front : (text : List ℕ) (f : Front) → HasFront text f → front_of text ≡ f
has_front text f is = spelled text f.name f.size f.store is
