-- What callers need of names.
use Rattle.std.proofs.Common.{◌≡◌, ℕ, zero, suc, ◌-◌, [], ◌∷◌, ◌++◌, ◌≤◌, true, ◌&&◌, cond, List}
use Rattle.std.proofs.Common.{length, take, drop, replicate, refl, sym, ap, subst, ◌∙◌, arith, eqb}
use Rattle.std.proofs.Common.{leb, Option, Some, None}
use Rattle.std.specs.Prelude.{not}
use Rattle.std.specs.List.{list_all, before_first, position_or_len}
use Rattle.std.proofs.lemmas.Bool.{leb-true, eqb-true, ne_eqb, and_parts, and_from, cond-true}
use Rattle.std.proofs.lemmas.List.{take_at, length-drop, take-append-drop, drop_at}
use Rattle.std.proofs.lemmas.List.Folds.{length-prefix_len}
use Rattle.std.proofs.lemmas.Option.{cond_some}
use Rattle.vab_bytes.specs.Name.{is_name_byte, is_name, IsName, name_field, name_of_field}
use Rattle.vab_bytes.specs.Name.{HoldsName}

-- a name has 1 to 36 bytes
pub name_fits : (text : List ℕ) → is_name text ≡ true → (1 ≤ length text) × (length text ≤ 36)
unfolding is_name
name_fits text h =
    let a =
    and_parts (leb 1 (length text) && leb (length text) 36) (list_all is_name_byte text) h in
    let b = and_parts (leb 1 (length text)) (leb (length text) 36) a.0 in
    (leb-true _ _ b.0, leb-true _ _ b.1)

-- each of its bytes is one that a name may have
pub name_bytes : (text : List ℕ) → is_name text ≡ true → list_all is_name_byte text ≡ true
unfolding is_name
name_bytes text h =
    (and_parts (leb 1 (length text) && leb (length text) 36) (list_all is_name_byte text) h).1

-- the text stands in front in the field
pub take-name_field : (text : List ℕ) → take (length text) (name_field text) ≡ text
take-name_field text = take_at text _ (length text) refl

-- a name and its field make a value
pub holds_name : (text : List ℕ) → IsName text → HoldsName (name_field text) (length text)
holds_name text h =
    let front = take-name_field text in
    record {
      name =
          subst IsName (sym front) h;
      text_len = ap length front;
      spelled = ap name_field (sym front);
    }

-- ---- the field

all_zeros : (xs : List ℕ) → list_all (λ b. eqb b 0) xs ≡ true → xs ≡ replicate (length xs) 0
all_zeros [] h = refl
all_zeros (x ∷ xs) h =
    let a = and_parts (eqb x 0) (list_all (λ b. eqb b 0) xs) h in
    let first : x ≡ 0 = eqb-true x 0 a.0 in
    let rest : xs ≡ replicate (length xs) 0 = all_zeros xs a.1 in
    cc

zeros_all : (n : ℕ) → list_all (λ b. eqb b 0) (replicate n 0) ≡ true
zeros_all zero = refl
zeros_all (suc n) = zeros_all n

no_zero : (b : ℕ) → is_name_byte b ≡ true → not (eqb b 0) ≡ true
no_zero zero h = absurd cc
no_zero (suc b) h =
    let apart : suc b ≡ 0 → ⊥ = λ e. omega (arith, e) in
    ap not (ne_eqb (suc b) 0 apart)

end_of_zeros : (n : ℕ) → position_or_len (λ b. eqb b 0) (replicate n 0) ≡ 0
end_of_zeros zero = refl
end_of_zeros (suc n) = refl

end_of_text : (text : List ℕ) (n : ℕ)
    → list_all is_name_byte text ≡ true
    → position_or_len (λ b. eqb b 0) (text ++ replicate n 0) ≡ length text
end_of_text [] n h = end_of_zeros n
end_of_text (x ∷ xs) n h =
    let a = and_parts (is_name_byte x) (list_all is_name_byte xs) h in
    let here : not (eqb x 0) ≡ true = no_zero x a.0 in
    let rest = end_of_text xs n a.1 in
    rw (here, rest) (omega arith)

-- a field that spells a name is its text with zeros behind it
pub found_name : (bytes text : List ℕ)
    → length bytes ≡ 36
    → name_of_field bytes ≡ Some text
    → IsName text × (bytes ≡ name_field text)
unfolding name_of_field
found_name bytes text len h =
    let cut : List ℕ = before_first (λ b. eqb b 0) bytes in
    let a =
    cond_some (is_name cut && list_all (λ b. eqb b 0) (drop (length cut) bytes)) cut text h in
    let b = and_parts (is_name cut) (list_all (λ b. eqb b 0) (drop (length cut) bytes)) a.0 in
    let place : length cut ≡ position_or_len (λ b. eqb b 0) bytes =
    length-prefix_len (λ b. not (eqb b 0)) bytes in
    let front : take (length cut) bytes ≡ cut = ap (λ (k : ℕ). take k bytes) place in
    let many : length (drop (length cut) bytes) ≡ 36 - length cut =
    rw length-drop (ap (λ (k : ℕ). k - length cut) len) in
    let back : drop (length cut) bytes ≡ replicate (36 - length cut) 0 =
    all_zeros (drop (length cut) bytes) b.1 ∙ ap (λ (k : ℕ). replicate k 0) many in
    let whole : bytes ≡ name_field cut =
    sym (take-append-drop (length cut) bytes)
    ∙ ap (λ (t : List ℕ). t ++ drop (length cut) bytes) front
    ∙ ap (λ (t : List ℕ). cut ++ t) back in
    let P : List ℕ → Type 0 = λ t. IsName t × (bytes ≡ name_field t) in
    subst P a.1 (b.0, whole)

-- the text with zeros behind it spells the name
pub only_name : (bytes text : List ℕ)
    → IsName text
    → bytes ≡ name_field text
    → name_of_field bytes ≡ Some text
unfolding name_of_field
only_name bytes text h e =
    let n : ℕ = 36 - length text in
    let zeros : List ℕ = replicate n 0 in
    let place : position_or_len (λ b. eqb b 0) (text ++ zeros) ≡ length text =
    end_of_text text n (name_bytes text h) in
    let cut : before_first (λ b. eqb b 0) (text ++ zeros) ≡ text =
    ap (λ (k : ℕ). take k (text ++ zeros)) place ∙ take_at text zeros (length text) refl in
    let behind : list_all (λ b. eqb b 0) (drop (length text) (text ++ zeros)) ≡ true =
    ap (λ (t : List ℕ). list_all (λ b. eqb b 0) t) (drop_at text zeros (length text) refl)
    ∙ zeros_all n in
    let test :
    (is_name text && list_all (λ b. eqb b 0) (drop (length text) (text ++ zeros))) ≡ true =
    and_from _ _ h behind in
    let chosen : List ℕ → Option (List ℕ) =
    λ t. cond (is_name t && list_all (λ b. eqb b 0) (drop (length t) (text ++ zeros))) (Some t)
    None in
    ap name_of_field e ∙ ap chosen cut ∙ cond-true _ (Some text) None test
