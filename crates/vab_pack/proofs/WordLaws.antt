-- What the words say is what they spell, and images of the names that they say are a set.
use Rattle.std.proofs.Common.{◌≡◌, ◌≢◌, ℕ, ◌+◌, ◌<◌, ◌≤◌, ◌^◌, Bool, true, false, cond, List, []}
use Rattle.std.proofs.Common.{◌∷◌, ◌++◌, length, get_or, map, take, drop, Option, Some, None}
use Rattle.std.proofs.Common.{Result, Ok, Err, refl, sym, ap, subst, ◌∙◌, inl, inr, append_assoc}
use Rattle.std.proofs.Common.{append-nil, length-append, length-drop, arith, eqb, ltb}
use Rattle.std.specs.Prelude.{All, AllPairs, IsTrue, IfSome, option_map, suc}
use Rattle.std.specs.Str.{bytes_eq}
use Rattle.std.specs.List.{position_or_len, before_first, after_first}
use Rattle.std.proofs.lemmas.List.{take_at, drop_at, get_or-take, length-take, get_or-map}
use Rattle.std.proofs.lemmas.List.{length-map}
use Rattle.std.proofs.lemmas.List.Elements.{All-nil, All-cons, All-head, All-tail, All-weaker}
use Rattle.std.proofs.lemmas.List.Quantifiers.{all_pairs_push}
use Rattle.std.proofs.lemmas.List.Sums.{split_at_first, passes_at_first, fails_before_first}
use Rattle.std.proofs.lemmas.List.Sums.{position_or_len_is}
use Rattle.std.proofs.lemmas.Bool.{cases_Bool, ltb-false, le-ltb, both_ways, false_from_ne_true}
use Rattle.std.proofs.lemmas.Bool.{eqb-true}
use Rattle.std.proofs.lemmas.Slice.Eq.{bytes_eq-Decides}
use Rattle.std.proofs.Math.ListN.{get_or-append}
use Rattle.std.proofs.Math.Seq.{get_or-append_seam}
use Rattle.vab_names.specs.Names.{is_base, most_partitions}
use Rattle.vab_set.specs.declared.set.SetImage.{SetImage}
use Rattle.vab_pack.specs.declared.fault.WordFault.{WordFault}
use Rattle.vab_pack.specs.declared.fault.WordFault.TheVariants as faults
use Rattle.vab_pack.specs.Amounts.{amount_up_to}
use Rattle.vab_pack.specs.Front.{Front, front_of, is_left_out, size_meant, size_of, store_meant}
use Rattle.vab_pack.specs.Front.{store_of}
use Rattle.vab_pack.specs.Asked.{Asked, Parts, word_of, HasParts, IsWord, IsWordOf, AreWordsOf}
use Rattle.vab_pack.specs.Asked.{IsAsked, Ask}
use Rattle.vab_pack.specs.Images.{NamesOfSet}
use Rattle.vab_pack.specs.Words.{◌>>=◌, or_fault, is_equals, parts_of, first_named, unless_first}
use Rattle.vab_pack.specs.Words.{new_name, asked_with, judged, asked_by, asked_behind, asked_of}
use Rattle.vab_pack.proofs.FrontLaws.{passes_none, none_passes, front_has, has_front}
use Rattle.vab_pack.proofs.Numbers.{amount_fits}

-- ---- a word

pub parts_found : (word : List ℕ) (a : Parts) → parts_of word ≡ Some a
    → (word ≡ word_of a) × (0 < length a.path)
unfolding parts_of
parts_found word a h =
    let none : Bool = eqb (length (after_first is_equals word)) 0 in
    let parts : Parts =
    record { front = before_first is_equals word; path = after_first is_equals word } in
    elim (cases_Bool none) [
      | inl empty ↦ absurd (let e : None ≡ Some a = sym (rw empty refl) ∙ h in cc)
      | inr some ↦
          let same : parts ≡ a = (let e : Some parts ≡ Some a = sym (rw some refl) ∙ h in cc) in
          let long : 0 < length (after_first is_equals word) =
          not_empty (after_first is_equals word) some in
          let inside : position_or_len is_equals word < length word =
          omega (arith, long, length-drop (position_or_len is_equals word + 1) word) in
          let byte : get_or word (position_or_len is_equals word) 0 ≡ 61 =
          eqb-true _ 61 (passes_at_first is_equals word 0 inside) in
          let whole : word ≡ word_of parts = split_at_first is_equals word 0 inside
          ∙ ap (λ (b : ℕ). before_first is_equals word ++ b ∷ after_first is_equals word)
          byte in
          let P : Parts → Type 0 = λ x. (word ≡ word_of x) × (0 < length x.path) in
          subst P same (whole, long)
    ]
  where
    not_empty : (l : List ℕ) → eqb (length l) 0 ≡ false → 0 < length l
    not_empty [] e = absurd cc
    not_empty (x ∷ l) e = omega arith

-- no byte before the first `=` is one
pub parts_first : (word : List ℕ) (a : Parts) → parts_of word ≡ Some a → All (λ b. b ≢ 61) a.front
unfolding parts_of
parts_first word a h =
    let parts : Parts =
    record { front = before_first is_equals word; path = after_first is_equals word } in
    elim (cases_Bool (eqb (length (after_first is_equals word)) 0)) [
      | inl empty ↦ absurd (let e : None ≡ Some a = sym (rw empty refl) ∙ h in cc)
      | inr some ↦
          let same : parts ≡ a = (let e : Some parts ≡ Some a = sym (rw some refl) ∙ h in cc) in
          let at : ℕ = position_or_len is_equals word in
          let none : All (λ b. b ≢ 61) (take at word) = λ (k : ℕ) (d : ℕ) lt e.
          let below : k < at = omega (arith, lt, length-take at word) in
          let here : get_or (take at word) k d ≡ get_or word k d = get_or-take at word k d below in
          both_ways (is_equals (get_or word k d)) (fails_before_first is_equals word k d below)
          (ap is_equals (sym here ∙ e)) in
          subst (λ (x : Parts). All (λ b. b ≢ 61) x.front) same none
    ]

pub parts_are : (a : Parts) → All (λ b. is_equals b ≡ false) a.front → 0 < length a.path
    → parts_of (word_of a) ≡ Some a
unfolding parts_of
parts_are a none some =
    let word : List ℕ = word_of a in
    let at = length a.front in
    let long = length-append a.front (61 ∷ a.path) in
    let first : position_or_len is_equals word ≡ at =
    position_or_len_is is_equals word at 0 (omega (arith, long))
    (λ k lt. ap is_equals (get_or-append a.front (61 ∷ a.path) 0 k lt) ∙ none k 0 lt)
    (λ lt. ap is_equals (get_or-append_seam a.front 61 a.path 0)) in
    let front : before_first is_equals word ≡ a.front =
    rw first (take_at a.front (61 ∷ a.path) at refl) in
    let regrouped : word ≡ (a.front ++ 61 ∷ []) ++ a.path =
    sym (append_assoc a.front (61 ∷ []) a.path) in
    let back : after_first is_equals word ≡ a.path =
    rw first (ap (drop (at + 1)) regrouped
    ∙ drop_at (a.front ++ 61 ∷ []) a.path (at + 1)
    (omega (arith, length-append a.front (61 ∷ [])))) in
    let filled : eqb (length a.path) 0 ≡ false =
    false_from_ne_true _ (λ t. let z : length a.path ≡ 0 = eqb-true _ 0 t in
    omega (arith, z, some)) in
    rw (front, back, filled) refl

pub parts_have : (word : List ℕ) (p : Parts) → parts_of word ≡ Some p → HasParts word p
parts_have word p h =
    let f = parts_found word p h in
    record { whole = f.0; first = parts_first word p h; path = f.1 }

pub have_parts : (word : List ℕ) (p : Parts) → HasParts word p → parts_of word ≡ Some p
have_parts word p is =
    let no : All (λ b. is_equals b ≡ false) p.front =
    All-weaker (λ (b : ℕ). b ≢ 61) (λ (b : ℕ). is_equals b ≡ false)
    (λ b ne. false_from_ne_true (is_equals b) (λ t. ne (eqb-true b 61 t))) p.front is.first in
    ap parts_of is.whole ∙ parts_are p no is.path

-- ---- the texts of a word

pub word_found : (word : List ℕ) (p : Parts)
    → parts_of word ≡ Some p
    → IsWord word (front_of p.front) p.path
word_found word p h =
    record { text = p.front; parts = parts_have word p h; texts = front_has p.front }

pub asked_read : (asked : List Asked) (word : List ℕ) (f : Front) (path : List ℕ)
    → IsWord word f path
    → asked_by asked word ≡ asked_with asked f path
unfolding asked_by
asked_read asked word f path is =
    let p : Parts = record { front = is.text; path = path } in
    rw (have_parts word p is.parts)
    (ap (λ (g : Front). asked_with asked g path) (has_front is.text f is.texts))

-- ---- a name that is new

pub first_none : (asked : List Asked) (name : List ℕ)
    → first_named asked name ≡ None
    → All (λ a. a.name ≢ name) asked
unfolding first_named
first_none asked name h =
    let p : Asked → Bool = λ a. bytes_eq a.name name in
    elim (cases_Bool (ltb (position_or_len p asked) (length asked))) [
      | inl some ↦ absurd (let e : Some (position_or_len p asked) ≡ None = sym (rw some refl) ∙ h in
          cc)
      | inr none ↦
          All-weaker (λ (a : Asked). p a ≡ false) (λ (a : Asked). a.name ≢ name)
          (λ a no e. both_ways (p a) no ((bytes_eq-Decides a.name name).1 e)) asked
          (passes_none p asked (ltb-false (position_or_len p asked) (length asked) none))
    ]

none_first : (asked : List Asked) (name : List ℕ)
    → All (λ a. a.name ≢ name) asked
    → first_named asked name ≡ None
unfolding first_named
none_first asked name differ =
    let p : Asked → Bool = λ a. bytes_eq a.name name in
    let no : All (λ a. p a ≡ false) asked =
    All-weaker (λ (a : Asked). a.name ≢ name) (λ (a : Asked). p a ≡ false)
    (λ a ne. false_from_ne_true _ (λ t. ne ((bytes_eq-Decides a.name name).0 t))) asked
    differ in
    let past : ltb (position_or_len p asked) (length asked) ≡ false =
    le-ltb _ _ (none_passes p asked no) in
    rw past refl

first_is : (word : ℕ) (name found : List ℕ) (o : Option ℕ)
    → unless_first word name o ≡ Ok found
    → (name ≡ found) × (o ≡ None)
first_is word name found None h = (cc, refl)
first_is word name found (Some k) h = absurd cc

-- a base name that none of these has
pub record IsNewName (asked : List Asked) (text name : List ℕ) : Type 0 where
  pub same : text ≡ name
  pub base : IsTrue (is_base text)
  pub differs : All (λ b. b.name ≢ text) asked

abbrev fails_by : {A : Type 0} → WordFault → Result A WordFault
fails_by fault = Err fault

pub name_found : (asked : List Asked) (text name : List ℕ)
    → new_name asked text ≡ Ok name
    → IsNewName asked text name
unfolding new_name
name_found asked text name h = elim (cases_Bool (is_base text)) [
  | inl base ↦
      let e : unless_first (length asked) text (first_named asked text) ≡ Ok name =
      sym (rw base refl) ∙ h in
      let f = first_is (length asked) text name (first_named asked text) e in
      record { same = f.0; base = base; differs = first_none asked text f.1 }
  | inr other ↦
      let r : Result (List ℕ) WordFault = Err (faults.BadName (length asked)) in
      absurd (let e : r ≡ Ok name = sym (rw other refl) ∙ h in cc)
]

pub name_again : (asked : List Asked) (name : List ℕ)
    → IsTrue (is_base name)
    → All (λ b. b.name ≢ name) asked
    → new_name asked name ≡ Ok name
unfolding new_name
name_again asked name base differs = rw (base, none_first asked name differs) refl

-- ---- the word behind others

pub record Found (asked : List Asked) (word : List ℕ) (a : Asked) : Type 0 where
  pub is_word : IsWordOf word a
  pub fits : IsAsked a
  pub differs : All (λ b. b.name ≢ a.name) asked

bind_ok : {A B : Type 0} (r : Result A WordFault) (f : A → Result B WordFault) (y : B)
    → (r >>= f) ≡ Ok y
    → (x : A) × (r ≡ Ok x) × (f x ≡ Ok y)
bind_ok (Ok x) f y e = (x, refl, e)
bind_ok (Err d) f y e = absurd cc

pub then_is : {A B : Type 0} (r : Result A WordFault) (f : A → Result B WordFault) (x : A)
    → r ≡ Ok x
    → (r >>= f) ≡ f x
then_is r f x e = ap (λ (s : Result _ WordFault). s >>= f) e

or_ok : {A : Type 0} (fault : WordFault) (o : Option A) (x : A)
    → or_fault fault o ≡ Ok x
    → o ≡ Some x
or_ok fault None x e = absurd cc
or_ok fault (Some y) x e = let same : y ≡ x = cc in ap (λ z. Some z) same

size_fits : (f : Front) (text : Option (List ℕ)) (size : Option ℕ)
    → size_meant f text ≡ Some size
    → IfSome size (λ n. n ≤ 2 ^ 40)
size_fits f None size e =
    let same : None ≡ size = cc in
    subst (λ (o : Option ℕ). IfSome o (λ n. n ≤ 2 ^ 40)) same tt
size_fits f (Some text) size e = elim (cases_Bool (is_left_out f text)) [
  | inl out ↦
      let some : Some None ≡ Some size = sym (rw out refl) ∙ e in
      let same : None ≡ size = cc in
      subst (λ (o : Option ℕ). IfSome o (λ n. n ≤ 2 ^ 40)) same tt
  | inr written ↦
      amount (amount_up_to (2 ^ 40) text) refl (sym (rw written refl) ∙ e)
]
  where
    amount : (o : Option ℕ)
        → amount_up_to (2 ^ 40) text ≡ o
        → option_map Some o ≡ Some size
        → IfSome size (λ n. n ≤ 2 ^ 40)
    amount None is e = absurd cc
    amount (Some n) is e =
        let same : Some n ≡ size = cc in
        subst (λ (o : Option ℕ). IfSome o (λ n. n ≤ 2 ^ 40)) same (amount_fits (2 ^ 40) text n is)

store_fits : (text : Option (List ℕ)) (store : ℕ) → store_meant text ≡ Some store → store < 2 ^ 64
store_fits None store e = let same : 0 ≡ store = cc in omega (arith, same)
store_fits (Some text) store e =
    omega (arith, amount_fits 0xffff_ffff_ffff_ffff text store e)

pub with_found : (asked : List Asked) (word : List ℕ) (f : Front) (path : List ℕ) (a : Asked)
    → IsWord word f path
    → asked_with asked f path ≡ Ok a
    → Found asked word a
unfolding asked_with size_of store_of
with_found asked word f path a is h =
    let n = bind_ok (new_name asked f.name) _ a h in
    let s = bind_ok (or_fault (faults.BadSize (length asked)) (size_of f)) _ a n.2 in
    let t = bind_ok (or_fault (faults.BadStore (length asked)) (store_of f)) _ a s.2 in
    let found : Asked = record { name = n.0; size = s.0; store = t.0; path = path } in
    let done : Ok found ≡ Ok a = t.2 in
    let same : found ≡ a = cc in
    let name = name_found asked f.name n.0 n.1 in
    let size : size_of f ≡ Some s.0 = or_ok (faults.BadSize (length asked)) (size_of f) s.0 s.1 in
    let store : store_of f ≡ Some t.0 =
    or_ok (faults.BadStore (length asked)) (store_of f) t.0 t.1 in
    subst (Found asked word) same (record {
      is_word = record { front = f; is_word = is; name = name.same; size = size; store = store };
      fits = record {
        name = subst (λ (l : List ℕ). IsTrue (is_base l)) name.same name.base;
        size = size_fits f f.size s.0 size;
        store = store_fits f.store t.0 store;
      };
      differs = subst (λ (l : List ℕ). All (λ b. b.name ≢ l) asked) name.same name.differs;
    })

judged_found : (asked : List Asked) (word : List ℕ) (o : Option Parts) (a : Asked)
    → parts_of word ≡ o
    → judged asked o ≡ Ok a
    → Found asked word a
judged_found asked word None a is h = absurd cc
judged_found asked word (Some p) a is h =
    with_found asked word (front_of p.front) p.path a (word_found word p is) h

pub asked_found : (asked : List Asked) (word : List ℕ) (a : Asked)
    → asked_by asked word ≡ Ok a
    → Found asked word a
unfolding asked_by
asked_found asked word a h = judged_found asked word (parts_of word) a refl h

with_again : (asked : List Asked) (f : Front) (path : List ℕ) (name : List ℕ) (size : Option ℕ)
    (store : ℕ)
    → new_name asked f.name ≡ Ok name
    → size_of f ≡ Some size
    → store_of f ≡ Some store
    → asked_with asked f path ≡ Ok (record { name = name; size = size; store = store; path = path })
unfolding asked_with
with_again asked f path name size store is_name is_size is_store =
    rw (is_name, is_size, is_store) refl

pub asked_again : (asked : List Asked) (word : List ℕ) (a : Asked)
    → IsWordOf word a
    → IsAsked a
    → All (λ b. b.name ≢ a.name) asked
    → asked_by asked word ≡ Ok a
asked_again asked word a is fits differs =
    let named : new_name asked is.front.name ≡ Ok a.name =
    ap (new_name asked) is.name ∙ name_again asked a.name fits.name differs in
    asked_read asked word is.front a.path is.is_word
    ∙ with_again asked is.front a.path a.name a.size a.store named is.size is.store

-- ---- all words

abbrev pub Apart : Asked → Asked → Type 0
Apart a b = a.name ≢ b.name

pub length_words : (words : List (List ℕ)) (asked : List Asked)
    → AreWordsOf words asked
    → length words ≡ length asked
length_words [] [] are = refl
length_words [] (a ∷ asked) are = absurd are
length_words (word ∷ words) [] are = absurd are
length_words (word ∷ words) (a ∷ asked) are = ap suc (length_words words asked are.1)

pub record Behind (asked : List Asked) (words : List (List ℕ)) (all : List Asked) : Type 0 where
  pub more : List Asked
  pub whole : all ≡ asked ++ more
  pub spelled : AreWordsOf words more
  pub fits : All IsAsked more
  pub apart : AllPairs Apart all

behind_found : (asked : List Asked) (words : List (List ℕ)) (all : List Asked)
    → asked_behind asked words ≡ Ok all
    → AllPairs Apart asked
    → Behind asked words all
unfolding asked_behind
behind_found asked [] all h apart =
    let same : asked ≡ all = cc in
    record {
      more = [];
      whole = sym same ∙ sym (append-nil asked);
      spelled = tt;
      fits = All-nil IsAsked;
      apart = subst (AllPairs Apart) same apart;
    }
behind_found asked (word ∷ words) all h apart =
    let x = bind_ok (asked_by asked word) (λ (a : Asked). asked_behind (asked ++ a ∷ []) words) all
    h in
    let f = asked_found asked word x.0 x.1 in
    let b = behind_found (asked ++ x.0 ∷ []) words all x.2
    (all_pairs_push Apart asked x.0 apart f.differs) in
    record {
      more = x.0 ∷ b.more;
      whole = b.whole ∙ append_assoc asked (x.0 ∷ []) b.more;
      spelled = (f.is_word, b.spelled);
      fits = All-cons IsAsked x.0 b.more f.fits b.fits;
      apart = b.apart;
    }

-- words that ask for images, and the words behind them
pub behind_more : (asked more : List Asked) (words rest : List (List ℕ))
    → AreWordsOf words more
    → All IsAsked more
    → AllPairs Apart (asked ++ more)
    → asked_behind asked (words ++ rest) ≡ asked_behind (asked ++ more) rest
unfolding asked_behind
behind_more asked [] [] rest are fits apart =
    ap (λ (l : List Asked). asked_behind l rest) (sym (append-nil asked))
behind_more asked [] (word ∷ words) rest are fits apart = absurd are
behind_more asked (x ∷ more) [] rest are fits apart = absurd are
behind_more asked (x ∷ more) (word ∷ words) rest are fits apart =
    let seam : (d : Asked) → get_or (asked ++ x ∷ more) (length asked) d ≡ x = λ (d : Asked).
    get_or-append_seam asked x more d in
    let differs : All (λ a. a.name ≢ x.name) asked = λ (k : ℕ) (d : Asked) lt.
    subst (λ (b : Asked). (get_or asked k d).name ≢ b.name) (seam d)
    (subst (λ (a : Asked). a.name ≢ (get_or (asked ++ x ∷ more) (length asked) d).name)
    (get_or-append asked (x ∷ more) d k lt)
    (apart k (length asked) d lt (omega (arith, length-append asked (x ∷ more))))) in
    let later : AllPairs Apart ((asked ++ x ∷ []) ++ more) =
    subst (AllPairs Apart) (sym (append_assoc asked (x ∷ []) more)) apart in
    then_is (asked_by asked word) (λ (a : Asked). asked_behind (asked ++ a ∷ []) (words ++ rest)) x
    (asked_again asked word x are.0 (All-head IsAsked x more fits) differs)
    ∙ behind_more (asked ++ x ∷ []) more words rest are.1 (All-tail IsAsked x more fits) later
    ∙ ap (λ (l : List Asked). asked_behind l rest) (append_assoc asked (x ∷ []) more)

behind_again : (words : List (List ℕ)) (asked : List Asked)
    → AreWordsOf words asked
    → All IsAsked asked
    → AllPairs Apart asked
    → asked_behind [] words ≡ Ok asked
unfolding asked_behind
behind_again words asked are fits apart =
    ap (asked_behind []) (sym (append-nil words)) ∙ behind_more [] asked words [] are fits apart

passed : {A : Type 0} (b : Bool) (fault : WordFault) (r : Result A WordFault) (y : A)
    → cond b (Err fault) r ≡ Ok y
    → (b ≡ false) × (r ≡ Ok y)
passed true fault r y e = absurd cc
passed false fault r y e = (refl, e)

pub words_found : (words : List (List ℕ)) (asked : List Asked)
    → asked_of words ≡ Ok asked
    → Ask words asked
unfolding asked_of
words_found words asked h =
    let few = passed (ltb most_partitions (length words)) (faults.TooMany (length words))
    (asked_behind [] words)
    asked h in
    let b = behind_found [] words asked few.1 (λ (i j : ℕ) (d : Asked) lt below.
    absurd (omega arith)) in
    let more : b.more ≡ asked = sym b.whole in
    record {
      count = ltb-false most_partitions (length words) few.0;
      spelled = subst (AreWordsOf words) more b.spelled;
      each = subst (All IsAsked) more b.fits;
      names = b.apart;
    }

pub words_again : (words : List (List ℕ)) (asked : List Asked)
    → Ask words asked
    → asked_of words ≡ Ok asked
unfolding asked_of
words_again words asked is =
    let few : ltb most_partitions (length words) ≡ false = le-ltb _ _ is.count in
    rw few (behind_again words asked is.spelled is.each is.names)

-- ---- the set

name_at : (images : List SetImage) (asked : List Asked)
    → map (λ i. i.name) images ≡ map (λ a. a.name) asked
    → (k : ℕ) (d : SetImage) (e : Asked)
    → k < length images
    → length images ≡ length asked
    → (get_or images k d).name ≡ (get_or asked k e).name
name_at images asked same k d e lt long =
    sym (get_or-map (λ (i : SetImage). i.name) images k d [] lt)
    ∙ ap (λ (l : List (List ℕ)). get_or l k []) same ∙ get_or-map (λ (a : Asked). a.name) asked
    k e [] (omega (arith, long))

pub set_of_names : (words : List (List ℕ)) (asked : List Asked) → Ask words asked → NamesOfSet asked
set_of_names words asked is images same each =
    let long : length images ≡ length asked = sym (length-map images (λ (i : SetImage). i.name))
    ∙ ap length same ∙ length-map asked (λ (a : Asked). a.name) in
    let all : length words ≡ length asked = length_words words asked is.spelled in
    record {
      count = omega (arith, long, all, is.count);
      each = each;
      names = λ (i j : ℕ) (d : SetImage) lt below e.
          let none : Asked = record { name = []; size = None; store = 0; path = [] } in
          is.names i j none lt (omega (arith, long))
          (sym (name_at images asked same i d none (omega arith) long) ∙ e
          ∙ name_at images asked same j d none below long);
    }
