-- The fault that the words are said to have is what is wrong with them.
use Rattle.std.proofs.Common.{◌≡◌, ℕ, suc, ◌+◌, ◌<◌, ◌≤◌, Bool, true, false, List, [], ◌∷◌, ◌++◌}
use Rattle.std.proofs.Common.{length, get_or, take, drop, Option, Some, None, Result, Ok, Err, refl}
use Rattle.std.proofs.Common.{sym, ap, subst, ◌∙◌, inl, inr, append_assoc, append-nil, add-one}
use Rattle.std.proofs.Common.{drop-cons, arith, ltb}
use Rattle.std.specs.Prelude.{◌⊎◌, All, AllPairs}
use Rattle.std.specs.Str.{bytes_eq}
use Rattle.std.specs.List.{position_or_len}
use Rattle.std.proofs.lemmas.List.{length-take-le, take-append-drop}
use Rattle.std.proofs.lemmas.List.Elements.{All-nil, All-cons}
use Rattle.std.proofs.lemmas.List.Quantifiers.{all_pairs_push, position-Some}
use Rattle.std.proofs.lemmas.List.Sums.{position_or_len_is}
use Rattle.std.proofs.lemmas.Bool.{cases_Bool, ltb-false, ltb-true, le-ltb, lt-ltb, both_ways}
use Rattle.std.proofs.lemmas.Bool.{false_from_ne_true}
use Rattle.std.proofs.lemmas.Slice.Eq.{bytes_eq-Decides}
use Rattle.vab_names.specs.Names.{is_base, most_partitions}
use Rattle.vab_pack.specs.declared.fault.WordFault.{WordFault}
use Rattle.vab_pack.specs.declared.fault.WordFault.TheVariants as faults
use Rattle.vab_pack.specs.Front.{Front, front_of, size_of, store_of}
use Rattle.vab_pack.specs.Asked.{Asked, Parts, HasParts, IsWord, AreWordsOf, IsAsked, Ask}
use Rattle.vab_pack.specs.Faults.{IsNew, IsFaultOf}
use Rattle.vab_pack.specs.Words.{◌>>=◌, or_fault, parts_of, first_named, unless_first, new_name}
use Rattle.vab_pack.specs.Words.{asked_with, judged, asked_by, asked_behind, asked_of}
use Rattle.vab_pack.proofs.WordLaws.{Apart, parts_have, have_parts, word_found, asked_read}
use Rattle.vab_pack.proofs.WordLaws.{asked_found, name_found, name_again, length_words, behind_more}

-- ---- the parts of a word

no_parts : (word : List ℕ) → ((p : Parts) → ¬ HasParts word p) → parts_of word ≡ None
no_parts word none = at (parts_of word) refl
  where
    at : (o : Option Parts) → parts_of word ≡ o → parts_of word ≡ None
    at None e = e
    at (Some p) e = absurd (none p (parts_have word p e))

abbrev err : WordFault → Result (List Asked) WordFault
err fault = Err fault

abbrev err_by : WordFault → Result Asked WordFault
err_by fault = Err fault

-- ---- where it holds, it comes

split_at : (words : List (List ℕ)) (i : ℕ)
    → i < length words
    → words ≡ take i words ++ get_or words i [] ∷ drop (i + 1) words
split_at words i lt =
    let first : drop i words ≡ get_or words i [] ∷ drop (i + 1) words =
    rw add-one (drop-cons words i [] lt) in
    sym (take-append-drop i words) ∙ ap (λ (l : List (List ℕ)). take i words ++ l) first

count_of : (words : List (List ℕ)) (i : ℕ) (before : List Asked)
    → i < length words
    → Ask (take i words) before
    → length before ≡ i
count_of words i before lt asks =
    sym (length_words (take i words) before asks.spelled)
    ∙ length-take-le i words (omega (arith, lt))

comes : (words : List (List ℕ)) (i : ℕ) (fault : WordFault) (before : List Asked)
    → length words ≤ most_partitions
    → i < length words
    → Ask (take i words) before
    → asked_by before (get_or words i []) ≡ err_by fault
    → asked_of words ≡ err fault
unfolding asked_of asked_behind
comes words i fault before few inside asks h =
    let no : ltb most_partitions (length words) ≡ false = le-ltb _ _ few in
    let word : List ℕ = get_or words i [] in
    let rest : List (List ℕ) = drop (i + 1) words in
    let there : asked_behind [] words ≡ asked_behind before (word ∷ rest) =
    ap (asked_behind []) (split_at words i inside)
    ∙ behind_more [] before (take i words) (word ∷ rest) asks.spelled asks.each asks.names in
    let stop : asked_behind before (word ∷ rest) ≡ err fault = rw h refl in
    rw no (there ∙ stop)

none_by : (before : List Asked) (word : List ℕ)
    → parts_of word ≡ None
    → asked_by before word ≡ err_by (faults.BadWord (length before))
unfolding asked_by
none_by before word h = rw h refl

bad_with : (before : List Asked) (f : Front) (path : List ℕ)
    → is_base f.name ≡ false
    → asked_with before f path ≡ err_by (faults.BadName (length before))
unfolding asked_with new_name
bad_with before f path other = rw other refl

first_with : (before : List Asked) (f : Front) (path : List ℕ) (i : ℕ)
    → is_base f.name ≡ true
    → first_named before f.name ≡ Some i
    → asked_with before f path ≡ err_by (faults.Repeated i (length before))
unfolding asked_with new_name
first_with before f path i base first = rw (base, first) refl

size_with : (before : List Asked) (f : Front) (path : List ℕ)
    → new_name before f.name ≡ Ok f.name
    → size_of f ≡ None
    → asked_with before f path ≡ err_by (faults.BadSize (length before))
unfolding asked_with
size_with before f path name none = rw (name, none) refl

store_with : (before : List Asked) (f : Front) (path : List ℕ) (size : Option ℕ)
    → new_name before f.name ≡ Ok f.name
    → size_of f ≡ Some size
    → store_of f ≡ None
    → asked_with before f path ≡ err_by (faults.BadStore (length before))
unfolding asked_with
store_with before f path size name some none = rw (name, some, none) refl

first_at : (before : List Asked) (name : List ℕ) (i : ℕ)
    → AllPairs Apart before
    → i < length before
    → ((d : Asked) → (get_or before i d).name ≡ name)
    → first_named before name ≡ Some i
unfolding first_named
first_at before name i apart inside named =
    let p : Asked → Bool = λ a. bytes_eq a.name name in
    let d : Asked = record { name = []; size = None; store = 0; path = [] } in
    let at : position_or_len p before ≡ i = position_or_len_is p before i d (omega (arith, inside))
    (λ k lt. false_from_ne_true _ (λ t. apart k i d lt inside
    ((bytes_eq-Decides (get_or before k d).name name).0 t ∙ sym (named d))))
    (λ lt. (bytes_eq-Decides (get_or before i d).name name).1 (named d)) in
    let some : ltb i (length before) ≡ true = lt-ltb _ _ inside in
    rw (at, some) refl

pub fault_comes : (words : List (List ℕ)) (fault : WordFault)
    → IsFaultOf words fault
    → asked_of words ≡ err fault
unfolding asked_of
fault_comes words (faults.TooMany count) (is, many) =
    let yes : ltb most_partitions (length words) ≡ true = lt-ltb _ _ (omega (arith, is, many)) in
    rw yes (ap (λ (k : ℕ). err (faults.TooMany k)) (sym is))
fault_comes words (faults.BadWord i) is =
    let long = count_of words i is.before is.inside is.asks in
    let word : List ℕ = get_or words i [] in
    comes words i (faults.BadWord i) is.before is.few is.inside is.asks
    (none_by is.before word (no_parts word is.bad) ∙ ap (λ (k : ℕ). err_by (faults.BadWord k)) long)
fault_comes words (faults.BadName i) is =
    let long = count_of words i is.before is.inside is.asks in
    let word : List ℕ = get_or words i [] in
    let (f, path, at, bad) = is.bad in
    let no : is_base f.name ≡ false = false_from_ne_true (is_base f.name) (λ t. bad t) in
    comes words i (faults.BadName i) is.before is.few is.inside is.asks
    (asked_read is.before word f path at
    ∙ bad_with is.before f path no
    ∙ ap (λ (k : ℕ). err_by (faults.BadName k)) long)
fault_comes words (faults.Repeated i j) is =
    let long = count_of words j is.before is.inside is.asks in
    let word : List ℕ = get_or words j [] in
    let (f, path, at, bad) = is.bad in
    let first = first_at is.before f.name i is.asks.names bad.1.0 bad.1.1 in
    comes words j (faults.Repeated i j) is.before is.few is.inside is.asks
    (asked_read is.before word f path at
    ∙ first_with is.before f path i bad.0 first
    ∙ ap (λ (k : ℕ). err_by (faults.Repeated i k)) long)
fault_comes words (faults.BadSize i) is =
    let long = count_of words i is.before is.inside is.asks in
    let word : List ℕ = get_or words i [] in
    let (f, path, at, bad) = is.bad in
    comes words i (faults.BadSize i) is.before is.few is.inside is.asks
    (asked_read is.before word f path at
    ∙ size_with is.before f path (name_again is.before f.name bad.0.base bad.0.first) bad.1
    ∙ ap (λ (k : ℕ). err_by (faults.BadSize k)) long)
fault_comes words (faults.BadStore i) is =
    let long = count_of words i is.before is.inside is.asks in
    let word : List ℕ = get_or words i [] in
    let (f, path, at, bad) = is.bad in
    comes words i (faults.BadStore i) is.before is.few is.inside is.asks
    (asked_read is.before word f path at
    ∙ store_with is.before f path bad.1.0 (name_again is.before f.name bad.0.base bad.0.first)
    bad.1.1 bad.2
    ∙ ap (λ (k : ℕ). err_by (faults.BadStore k)) long)
fault_comes words faults.NoMemory is = absurd is

-- ---- and it comes only there

bind_err : {A B : Type 0} (r : Result A WordFault) (f : A → Result B WordFault) (e : WordFault)
    → (r >>= f) ≡ Err e
    → (r ≡ Err e) ⊎ ((x : A) × (r ≡ Ok x) × (f x ≡ Err e))
bind_err (Ok x) f e h = inr (x, refl, h)
bind_err (Err d) f e h = inl (let same : d ≡ e = cc in ap (λ (x : WordFault). Err x) same)

or_err : {A : Type 0} (fault e : WordFault) (o : Option A)
    → or_fault fault o ≡ Err e
    → (o ≡ None) × (fault ≡ e)
or_err fault e None h = (refl, cc)
or_err fault e (Some x) h = absurd cc

or_some : {A : Type 0} (fault : WordFault) (o : Option A) (x : A)
    → or_fault fault o ≡ Ok x
    → o ≡ Some x
or_some fault None x h = absurd cc
or_some fault (Some y) x h = let same : y ≡ x = cc in ap (λ z. Some z) same

pub record Stop (asked : List Asked) (words : List (List ℕ)) (fault : WordFault) : Type 0 where
  pub at : ℕ
  pub more : List Asked
  pub inside : at < length words
  pub spelled : AreWordsOf (take at words) more
  pub fits : All IsAsked more
  pub apart : AllPairs Apart (asked ++ more)
  pub fault_is : asked_by (asked ++ more) (get_or words at []) ≡ err_by fault

stops : (asked : List Asked) (words : List (List ℕ)) (fault : WordFault)
    → asked_behind asked words ≡ err fault
    → AllPairs Apart asked
    → Stop asked words fault
unfolding asked_behind
stops asked [] fault h apart = absurd cc
stops asked (word ∷ words) fault h apart =
    elim (bind_err (asked_by asked word) (λ (a : Asked). asked_behind (asked ++ a ∷ []) words) fault
    h) [
      | inl e ↦
          record {
            at = 0;
            more = [];
            inside = omega arith;
            spelled = tt;
            fits = All-nil IsAsked;
            apart = subst (AllPairs Apart) (sym (append-nil asked)) apart;
            fault_is = ap (λ (l : List Asked). asked_by l word) (append-nil asked) ∙ e;
          }
      | inr x ↦
          let f = asked_found asked word x.0 x.1 in
          let s = stops (asked ++ x.0 ∷ []) words fault x.2
          (all_pairs_push Apart asked x.0 apart f.differs) in
          let regrouped : (asked ++ x.0 ∷ []) ++ s.more ≡ asked ++ x.0 ∷ s.more =
          append_assoc asked (x.0 ∷ []) s.more in
          record {
            at = suc s.at;
            more = x.0 ∷ s.more;
            inside = omega (arith, s.inside);
            spelled = (f.is_word, s.spelled);
            fits = All-cons IsAsked x.0 s.more f.fits s.fits;
            apart = subst (AllPairs Apart) regrouped s.apart;
            fault_is = ap (λ (l : List Asked). asked_by l (get_or words s.at [])) (sym regrouped)
                ∙ s.fault_is;
          }
    ]

module _ (words : List (List ℕ)) (i : ℕ) (before : List Asked)
    (few : length words ≤ most_partitions)
    (inside : i < length words) (asks : Ask (take i words) before) (fault : WordFault) where
  long : length before ≡ i
  long = count_of words i before inside asks

  abbrev word : List ℕ
  word = get_or words i []

  repeated : (f : Front) (path : List ℕ) (o : Option ℕ)
      → IsWord word f path
      → is_base f.name ≡ true
      → first_named before f.name ≡ o
      → unless_first (length before) f.name o ≡ Err fault
      → IsFaultOf words fault
  unfolding first_named
  repeated f path None is base first h = absurd cc
  repeated f path (Some k) is base first h =
      let same : faults.Repeated k i ≡ fault =
      ap (λ (n : ℕ). faults.Repeated k n) (sym long)
      ∙ (let e : err_by (faults.Repeated k (length before)) ≡ err_by fault = again k h in cc) in
      let at : (d : Asked)
      → (k < length before) × (bytes_eq (get_or before k d).name f.name ≡ true) =
      λ d. let q = position-Some (λ b. bytes_eq b.name f.name) before k d first in (q.0, q.1) in
      subst (IsFaultOf words) same (record {
        few = few;
        inside = inside;
        before = before;
        asks = asks;
        bad = (
          f,
          path,
          is,
          (
            base,
            (
              (at (record { name = []; size = None; store = 0; path = [] })).0,
              λ d. (bytes_eq-Decides (get_or before k d).name f.name).0 (at d).1,
            ),
          ),
        );
      })
    where
      again : (k : ℕ)
          → unless_first (length before) f.name (Some k) ≡ Err fault
          → err_by (faults.Repeated k (length before)) ≡ err_by fault
      again k h = let same : faults.Repeated k (length before) ≡ fault = cc in ap err_by same

  named : (f : Front) (path : List ℕ)
      → IsWord word f path
      → new_name before f.name ≡ Err fault
      → IsFaultOf words fault
  unfolding new_name
  named f path is h = elim (cases_Bool (is_base f.name)) [
    | inl base ↦ repeated f path (first_named before f.name) is base refl
        (let e : new_name before f.name ≡ unless_first (length before) f.name
        (first_named before f.name) = rw base refl in sym e ∙ h)
    | inr other ↦
        let r : Result (List ℕ) WordFault = Err (faults.BadName (length before)) in
        let e : r ≡ Err fault = (let g : new_name before f.name ≡ r = rw other refl in sym g ∙ h) in
        let same : faults.BadName i ≡ fault = ap faults.BadName (sym long) ∙ cc in
        subst (IsFaultOf words) same (record {
          few = few;
          inside = inside;
          before = before;
          asks = asks;
          bad = (f, path, is, λ t. both_ways (is_base f.name) other t);
        })
  ]

  sized : (f : Front) (path : List ℕ)
      → IsWord word f path
      → IsNew before f.name
      → or_fault (faults.BadSize (length before)) (size_of f) ≡ Err fault
      → IsFaultOf words fault
  sized f path is new h =
      let e = or_err (faults.BadSize (length before)) fault (size_of f) h in
      let same : faults.BadSize i ≡ fault = ap faults.BadSize (sym long) ∙ e.1 in
      subst (IsFaultOf words) same (record {
        few = few;
        inside = inside;
        before = before;
        asks = asks;
        bad = (f, path, is, (new, e.0));
      })

  stored : (f : Front) (path : List ℕ) (size : Option ℕ)
      → IsWord word f path
      → IsNew before f.name
      → size_of f ≡ Some size
      → or_fault (faults.BadStore (length before)) (store_of f) ≡ Err fault
      → IsFaultOf words fault
  stored f path size is new some h =
      let e = or_err (faults.BadStore (length before)) fault (store_of f) h in
      let same : faults.BadStore i ≡ fault = ap faults.BadStore (sym long) ∙ e.1 in
      subst (IsFaultOf words) same (record {
        few = few;
        inside = inside;
        before = before;
        asks = asks;
        bad = (f, path, is, (new, (size, some), e.0));
      })

  of_front : (f : Front) (path : List ℕ)
      → IsWord word f path
      → asked_with before f path ≡ err_by fault
      → IsFaultOf words fault
  unfolding asked_with
  of_front f path is h = elim (bind_err (new_name before f.name) _ fault h) [
    | inl e ↦ named f path is e
    | inr n ↦
        let found = name_found before f.name n.0 n.1 in
        let new : IsNew before f.name = record { base = found.base; first = found.differs } in
        elim (bind_err (or_fault (faults.BadSize (length before)) (size_of f)) _ fault n.2) [
          | inl e ↦ sized f path is new e
          | inr s ↦
              let some : size_of f ≡ Some s.0 =
              or_some (faults.BadSize (length before)) (size_of f) s.0 s.1 in
              elim
              (bind_err (or_fault (faults.BadStore (length before)) (store_of f)) _ fault s.2) [
                | inl e ↦ stored f path s.0 is new some e
                | inr t ↦ absurd
                    (let e : Ok (record { name = n.0; size = s.0; store = t.0; path = path })
                    ≡ err_by fault = t.2 in
                    cc)
              ]
        ]
  ]

  of_parts : (o : Option Parts)
      → parts_of word ≡ o
      → judged before o ≡ err_by fault
      → IsFaultOf words fault
  of_parts None parts h =
      let e : err_by (faults.BadWord (length before)) ≡ err_by fault = h in
      let same : faults.BadWord i ≡ fault = ap faults.BadWord (sym long) ∙ cc in
      subst (IsFaultOf words) same (record {
        few = few;
        inside = inside;
        before = before;
        asks = asks;
        bad = λ p is. let both : None ≡ Some p = sym parts ∙ have_parts word p is in absurd cc;
      })
  of_parts (Some p) parts h =
      of_front (front_of p.front) p.path (word_found word p parts) h

  pub is_fault : asked_by before word ≡ err_by fault → IsFaultOf words fault
  unfolding asked_by
  is_fault h = of_parts (parts_of word) refl h

pub fault_holds : (words : List (List ℕ)) (fault : WordFault)
    → asked_of words ≡ err fault
    → IsFaultOf words fault
unfolding asked_of
fault_holds words fault h = elim (cases_Bool (ltb most_partitions (length words))) [
  | inl many ↦
      let e : err (faults.TooMany (length words)) ≡ err fault = sym (rw many refl) ∙ h in
      let same : faults.TooMany (length words) ≡ fault = cc in
      subst (IsFaultOf words) same (refl, ltb-true most_partitions (length words) many)
  | inr within ↦
      let few : length words ≤ most_partitions = ltb-false most_partitions (length words) within in
      let s = stops [] words fault (sym (rw within refl) ∙ h) (λ (i j : ℕ) (d : Asked) lt below.
      absurd (omega arith)) in
      let taken : length (take s.at words) ≡ s.at =
      length-take-le s.at words (omega (arith, s.inside)) in
      let asks : Ask (take s.at words) s.more =
      record {
        count = omega (arith, taken, s.inside, few);
        spelled = s.spelled;
        each =
            s.fits;
        names = s.apart;
      } in
      is_fault words s.at s.more few s.inside asks fault s.fault_is
]
