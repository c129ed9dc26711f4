-- Entries one after another: what is read is spelled so and keeps the rules, and what is spelled so
-- and keeps them is read.
use Rattle.std.proofs.Common.{◌≡◌, ℕ, zero, suc, ◌+◌, ◌*◌, ◌<◌, ◌≤◌, Bool, true, false, cond, List}
use Rattle.std.proofs.Common.{[], ◌∷◌, ◌++◌, length, get_or, take, drop, Option, Some, None, Result}
use Rattle.std.proofs.Common.{Ok, Err, refl, sym, ap, subst, ◌∙◌, ◌⊎◌, inl, inr, append_assoc}
use Rattle.std.proofs.Common.{arith}
use Rattle.std.specs.Prelude.{All, AllPairs}
use Rattle.std.specs.List.{flat_map}
use Rattle.std.proofs.lemmas.List.{append-nil, length-append, length_push, take_at, drop_at}
use Rattle.std.proofs.lemmas.List.{drop-drop, get_or_at, get_or_append_left, drop_all}
use Rattle.std.proofs.lemmas.List.Elements.{All-push}
use Rattle.std.proofs.lemmas.List.Quantifiers.{all_pairs_push}
use Rattle.vab_bytes.specs.Number.{IsBytes, field}
use Rattle.vab_bytes.proofs.NumberLaws.{length-field, IsBytes-field}
use Rattle.vab_tables.specs.declared.fault.EntryKind.{EntryKind}
use Rattle.vab_tables.specs.declared.fault.TableFault.{TableFault}
use Rattle.vab_tables.specs.declared.fault.TableFault.TheVariants as faults
use Rattle.vab_tables.proofs.EntryLaws.{IsSpelled, cut}
use Rattle.vab_tables.proofs.RuleLaws.{IsJudged}
use Rattle.vab_tables.specs.Reading.{◌>>=◌, entry_or, entries_in}

-- the value of a step that did not fail
pub bind_ok : {A B : Type 0} (r : Result A TableFault) (f : A → Result B TableFault) (y : B)
    → (r >>= f) ≡ Ok y → (x : A) × (r ≡ Ok x) × (f x ≡ Ok y)
bind_ok (Ok x) f y e = (x, refl, e)
bind_ok (Err d) f y e = absurd cc

abbrev done : {A : Type 0} → A → Result A TableFault
done x = Ok x

pub ok_is : {A : Type 0} (x y : A) → done x ≡ done y → x ≡ y
ok_is x y e = cc

guarded : {A : Type 0} (b : Bool) (fault : TableFault) (x y : A) → cond b (Ok x) (Err fault) ≡ Ok y
    → (b ≡ true) × (x ≡ y)
guarded true fault x y e = (refl, cc)
guarded false fault x y e = absurd cc

-- an entry that was not refused is there and passes
pub entry_is : {E : Type 0} (fault : TableFault) (passes : E → Bool) (o : Option E) (e : E)
    → entry_or fault passes o ≡ Ok e → (o ≡ Some e) × (passes e ≡ true)
entry_is fault passes None e h = absurd cc
entry_is fault passes (Some x) e h =
    let g = guarded (passes x) fault x e h in
    subst (λ (y : _). (Some x ≡ Some y) × (passes y ≡ true)) g.1 (refl, g.0)

-- an entry that is there and passes is not refused
pub entry_ok : {E : Type 0} (fault : TableFault) (passes : E → Bool) (o : Option E) (e : E)
    → o ≡ Some e → passes e ≡ true → entry_or fault passes o ≡ Ok e
entry_ok fault passes o e h p = rw (h, p) refl

-- what was read behind earlier entries
pub record Found {E : Type 0} (size : ℕ) (spell : E → List ℕ) (Keeps : E → Type 0) (Apart : E → E
    → Type 0) (area : List ℕ) (n : ℕ) (earlier entries : List E) : Type 0 where
  pub more : List E
  pub whole : entries ≡ earlier ++ more
  pub count : length more ≡ n
  pub spelled : drop (length earlier * size) area ≡ flat_map spell more
      ++ drop ((length earlier + n) * size) area
  pub keeps : All Keeps entries
  pub apart : AllPairs Apart entries

-- an entry in front of what was read behind it
found_more : {E : Type 0} (size : ℕ) (spell : E → List ℕ) (Keeps : E → Type 0) (Apart : E → E
    → Type 0) (area : List ℕ) (n : ℕ) (earlier entries : List E) (e : E)
    → field area (length earlier * size) size ≡ spell e
    → Found size spell Keeps Apart area n (earlier ++ e ∷ []) entries
    → Found size spell Keeps Apart area (suc n) earlier entries
found_more {E} size spell Keeps Apart area n earlier entries e piece f =
    let at : ℕ = length earlier * size in
    let later : List E = earlier ++ e ∷ [] in
    let len : length later ≡ length earlier + 1 = length_push earlier e in
    let grown : length later * size ≡ (length earlier + 1) * size = ap (λ (k : ℕ). k * size) len in
    let next : at + size ≡ length later * size = omega (arith, grown) in
    let same : length later + n ≡ length earlier + suc n = omega (arith, len) in
    let tail : List ℕ = drop ((length earlier + suc n) * size) area in
    let end : drop ((length later + n) * size) area ≡ tail =
    ap (λ (k : ℕ). drop (k * size) area) same in
    let start : drop (at + size) area ≡ drop (length later * size) area =
    ap (λ (k : ℕ). drop k area) next in
    let behind : drop (at + size) area ≡ flat_map spell f.more ++ tail = start ∙ f.spelled
    ∙ ap (λ (t : List ℕ). flat_map spell f.more ++ t) end in
    let front : drop at area ≡ spell e ++ drop (at + size) area = cut area at size
    ∙ ap (λ (t : List ℕ). t ++ drop (at + size) area) piece in
    let both : drop at area ≡ spell e ++ (flat_map spell f.more ++ tail) = front
    ∙ ap (λ (t : List ℕ). spell e ++ t) behind in
    record {
      more = e ∷ f.more;
      whole = f.whole ∙ append_assoc earlier (e ∷ []) f.more;
      count = ap suc f.count;
      spelled = both ∙ sym (append_assoc (spell e) (flat_map spell f.more) tail);
      keeps = f.keeps;
      apart = f.apart;
    }

-- what is read behind good entries is spelled so, and is good
pub entries_found : {E : Type 0} (kind : EntryKind) (size : ℕ) (spell : E → List ℕ) (read : List ℕ
    → Option E) (passes : List E → E → Bool) (Fits Keeps : E → Type 0) (Apart : E → E → Type 0)
    → IsSpelled size spell read Fits → IsJudged passes Fits Keeps Apart → (area : List ℕ)
    → IsBytes area → (n : ℕ) (earlier entries : List E)
    → (length earlier + n) * size ≤ length area
    → All Keeps earlier → AllPairs Apart earlier
    → entries_in kind size read passes area n earlier ≡ Ok entries
    → Found size spell Keeps Apart area n earlier entries
unfolding entries_in
entries_found {E} kind size spell read passes Fits Keeps Apart spelled judged area bytes zero
    earlier entries long keeps apart h =
    let same : length earlier ≡ length earlier + 0 = omega arith in
    let made : Found size spell Keeps Apart area 0 earlier earlier = record {
      more = [];
      whole = sym (append-nil earlier);
      count = refl;
      spelled = ap (λ (k : ℕ). drop (k * size) area) same;
      keeps = keeps;
      apart = apart;
    } in
    subst (λ (es : List E). Found size spell Keeps Apart area 0 earlier es)
    (ok_is earlier entries h) made
entries_found {E} kind size spell read passes Fits Keeps Apart spelled judged area bytes (suc n)
    earlier entries long keeps apart h =
    let at : ℕ = length earlier * size in
    let piece : List ℕ = field area at size in
    let a =
    bind_ok (entry_or (faults.BadEntry kind (length earlier)) (passes earlier) (read piece))
    (λ e. entries_in kind size read passes area n (earlier ++ e ∷ [])) entries h in
    let e : E = a.0 in
    let b = entry_is (faults.BadEntry kind (length earlier)) (passes earlier) (read piece) e a.1 in
    let within : at + size ≤ length area = omega (arith, long) in
    let s =
    spelled.from piece e (length-field area at size within) (IsBytes-field area at size bytes)
    b.0 in
    let j = judged.found earlier e s.1 b.1 in
    let same : length earlier + suc n ≡ length (earlier ++ e ∷ []) + n =
    omega (arith, length_push earlier e) in
    let inside : (length (earlier ++ e ∷ []) + n) * size ≤ length area =
    subst (λ (k : ℕ). k * size ≤ length area) same long in
    found_more size spell Keeps Apart area n earlier entries e s.0
    (entries_found kind size spell read passes Fits Keeps Apart spelled judged area bytes n
    (earlier ++ e ∷ []) entries inside (All-push Keeps earlier e keeps j.0)
    (all_pairs_push Apart earlier e apart j.1) a.2)

-- good entries that are spelled behind earlier ones are read
pub entries_only : {E : Type 0} (kind : EntryKind) (size : ℕ) (spell : E → List ℕ) (read : List ℕ
    → Option E) (passes : List E → E → Bool) (Fits Keeps : E → Type 0) (Apart : E → E → Type 0)
    → IsSpelled size spell read Fits → IsJudged passes Fits Keeps Apart
    → (area tail : List ℕ) (earlier more : List E)
    → drop (length earlier * size) area ≡ flat_map spell more ++ tail
    → All Keeps (earlier ++ more) → AllPairs Apart (earlier ++ more)
    → entries_in kind size read passes area (length more) earlier ≡ Ok (earlier ++ more)
unfolding entries_in
entries_only kind size spell read passes Fits Keeps Apart spelled judged area tail earlier [] h
    keeps apart = ap done (sym (append-nil earlier))
entries_only {E} kind size spell read passes Fits Keeps Apart spelled judged area tail earlier
    (e ∷ more) h keeps apart =
    let at : ℕ = length earlier * size in
    let whole : List E = earlier ++ e ∷ more in
    let later : List E = earlier ++ e ∷ [] in
    let inside : length earlier < length whole = omega (arith, length-append earlier (e ∷ more)) in
    let here : Keeps e =
    subst Keeps (get_or_at earlier e more e (length earlier) refl)
    (keeps (length earlier) e inside) in
    let fits : Fits e = judged.fits e here in
    let differs : (k : ℕ) (d : E) → k < length earlier → Apart (get_or earlier k d) e = λ k d lt.
    subst (λ (y : E). Apart (get_or earlier k d) y)
    (get_or_at earlier e more d (length earlier) refl)
    (subst (λ (x : E). Apart x (get_or whole (length earlier) d))
    (get_or_append_left earlier (e ∷ more) d k lt) (apart k (length earlier) d lt inside)) in
    let from : drop at area ≡ spell e ++ (flat_map spell more ++ tail) = h
    ∙ append_assoc (spell e) (flat_map spell more) tail in
    let piece : field area at size ≡ spell e = ap (take size) from
    ∙ take_at (spell e) (flat_map spell more ++ tail) size (spelled.len e fits) in
    let ok =
    entry_ok (faults.BadEntry kind (length earlier)) (passes earlier)
    (read (field area at size)) e (ap read piece
    ∙ spelled.back e fits) (judged.only earlier e here differs) in
    let len : length later ≡ length earlier + 1 = length_push earlier e in
    let grown : length later * size ≡ (length earlier + 1) * size = ap (λ (k : ℕ). k * size) len in
    let next : length later * size ≡ at + size = omega (arith, grown) in
    let rest : drop (length later * size) area ≡ flat_map spell more ++ tail =
    ap (λ (k : ℕ). drop k area) next ∙ sym (drop-drop size at area) ∙ ap (drop size) from
    ∙ drop_at (spell e) (flat_map spell more ++ tail) size (spelled.len e fits) in
    let same : whole ≡ later ++ more = sym (append_assoc earlier (e ∷ []) more) in
    let ih =
    entries_only kind size spell read passes Fits Keeps Apart spelled judged area tail later
    more rest (subst (λ (es : List E). All Keeps es) same keeps)
    (subst (λ (es : List E). AllPairs Apart es) same apart) in
    rw ok (ih ∙ ap done (sym same))

-- what is read in a whole area is spelled by it, and is good
pub all_found : {E : Type 0} (kind : EntryKind) (size : ℕ) (spell : E → List ℕ) (read : List ℕ
    → Option E) (passes : List E → E → Bool) (Fits Keeps : E → Type 0) (Apart : E → E → Type 0)
    → IsSpelled size spell read Fits → IsJudged passes Fits Keeps Apart → (area : List ℕ)
    → IsBytes area → (n : ℕ) (entries : List E) → length area ≡ n * size
    → entries_in kind size read passes area n [] ≡ Ok entries
    → (area ≡ flat_map spell entries) × (length entries ≡ n) × All Keeps entries
    × AllPairs Apart entries
all_found {E} kind size spell read passes Fits Keeps Apart spelled judged area bytes n entries len h
    =
    let none : All Keeps [] = λ (k : ℕ) (d : E) lt. absurd (omega (arith, lt)) in
    let alone : AllPairs Apart [] = λ (i j : ℕ) (d : E) lt below. absurd (omega (arith, below)) in
    let plus : 0 + n ≡ n = omega arith in
    let long : (0 + n) * size ≤ length area = omega (arith, len, ap (λ (k : ℕ). k * size) plus) in
    let f =
    entries_found kind size spell read passes Fits Keeps Apart spelled judged area bytes n []
    entries long none alone h in
    let start : 0 * size ≡ 0 = omega arith in
    let end : drop ((0 + n) * size) area ≡ [] =
    drop_all ((0 + n) * size) area (omega (arith, len, ap (λ (k : ℕ). k * size) plus)) in
    let whole : area ≡ flat_map spell f.more = ap (λ (k : ℕ). drop k area) (sym start) ∙ f.spelled
    ∙ ap (λ (t : List ℕ). flat_map spell f.more ++ t) end
    ∙ append-nil (flat_map spell f.more) in
    (whole ∙ ap (flat_map spell) (sym f.whole), ap length f.whole ∙ f.count, f.keeps, f.apart)

-- good entries that a whole area spells are read
pub all_only : {E : Type 0} (kind : EntryKind) (size : ℕ) (spell : E → List ℕ) (read : List ℕ
    → Option E) (passes : List E → E → Bool) (Fits Keeps : E → Type 0) (Apart : E → E → Type 0)
    → IsSpelled size spell read Fits → IsJudged passes Fits Keeps Apart
    → (area : List ℕ) (n : ℕ) (entries : List E) → n ≡ length entries
    → area ≡ flat_map spell entries
    → All Keeps entries → AllPairs Apart entries
    → entries_in kind size read passes area n [] ≡ Ok entries
all_only {E} kind size spell read passes Fits Keeps Apart spelled judged area n entries count h
    keeps apart =
    let start : 0 * size ≡ 0 = omega arith in
    let from : drop (0 * size) area ≡ flat_map spell entries ++ [] =
    ap (λ (k : ℕ). drop k area) start ∙ h ∙ sym (append-nil (flat_map spell entries)) in
    rw count
    (entries_only kind size spell read passes Fits Keeps Apart spelled judged area [] [] entries
    from keeps apart)

-- ---- the entry at fault

-- the entry that comes behind good ones is not there, or is refused
abbrev pub IsRefused : {E : Type 0} → (List ℕ → Option E) → (E → Bool) → List ℕ → Type 0
IsRefused read passes bytes = (read bytes ≡ None)
    ⊎ ((e : _) × (read bytes ≡ Some e) × (passes e ≡ false))

-- a fault is that of one entry: those before it are read, and it is refused
pub record FirstRefused {E : Type 0} (kind : EntryKind) (size : ℕ) (read : List ℕ
    → Option E) (passes : List E → E
    → Bool) (area : List ℕ) (n : ℕ) (earlier : List E) (fault : TableFault) : Type 0 where
  pub index : ℕ
  pub before : List E
  pub inside : index < n
  pub count : length before ≡ length earlier + index
  pub good : entries_in kind size read passes area index earlier ≡ Ok before
  pub refused : IsRefused read (passes before) (field area (length before * size) size)
  pub named : fault ≡ faults.BadEntry kind (length before)

result_cases : {A : Type 0} (r : Result A TableFault)
    → ((x : A) × (r ≡ Ok x)) ⊎ ((e : TableFault) × (r ≡ Err e))
result_cases (Ok x) = inl (x, refl)
result_cases (Err e) = inr (e, refl)

failed : {A : Type 0} (b : Bool) (fault found : TableFault) (x : A)
    → cond b (Ok x) (Err fault) ≡ Err found → (b ≡ false) × (found ≡ fault)
failed true fault found x h = absurd cc
failed false fault found x h = (refl, cc)

refused_by : {E : Type 0} (fault found : TableFault) (passes : E → Bool) (o : Option E)
    → entry_or fault passes o ≡ Err found
    → ((o ≡ None) ⊎ ((e : E) × (o ≡ Some e) × (passes e ≡ false))) × (found ≡ fault)
refused_by fault found passes None h = (inl refl, cc)
refused_by fault found passes (Some x) h =
    let f = failed (passes x) fault found x h in
    (inr (x, refl, f.0), f.1)

abbrev stopped : {A : Type 0} → TableFault → Result A TableFault
stopped e = Err e

same_fault : {A : Type 0} (d e : TableFault) → stopped {A = A} d ≡ stopped {A = A} e → d ≡ e
same_fault d e h = cc

entry_refused : {E : Type 0} (fault found : TableFault) (passes : E → Bool) (read : List ℕ
    → Option E) (bytes : List ℕ) → entry_or fault passes (read bytes) ≡ Err found
    → IsRefused read passes bytes × (found ≡ fault)
entry_refused fault found passes read bytes h = refused_by fault found passes (read bytes) h

pub entries_refused : {E : Type 0} (kind : EntryKind) (size : ℕ) (read : List ℕ
    → Option E) (passes : List E → E
    → Bool) (area : List ℕ) (n : ℕ) (earlier : List E) (fault : TableFault)
    → entries_in kind size read passes area n earlier ≡ Err fault
    → FirstRefused kind size read passes area n earlier fault
unfolding entries_in
entries_refused kind size read passes area zero earlier fault h = absurd cc
entries_refused {E} kind size read passes area (suc n) earlier fault h =
    let next =
    entry_or (faults.BadEntry kind (length earlier)) (passes earlier)
    (read (field area (length earlier * size) size)) in
    let behind = λ (e : E). entries_in kind size read passes area n (earlier ++ e ∷ []) in
    elim (result_cases next) [
      | inl x ↦
          let after : (next >>= behind) ≡ behind x.0 =
          ap (λ (r : Result E TableFault). r >>= behind) x.1 in
          let ih =
          entries_refused kind size read passes area n (earlier ++ x.0 ∷ []) fault (sym after
          ∙ h) in
          let good : entries_in kind size read passes area (suc ih.index) earlier ≡ Ok ih.before =
          ap (λ (r : Result E TableFault). r >>= λ e. entries_in kind size read passes area
          ih.index (earlier ++ e ∷ [])) x.1 ∙ ih.good in
          record {
            index = suc ih.index;
            before = ih.before;
            inside = omega (arith, ih.inside);
            count = omega (arith, ih.count, length_push earlier x.0);
            good = good;
            refused = ih.refused;
            named = ih.named;
          }
      | inr e ↦
          let stops : (next >>= behind) ≡ Err e.0 =
          ap (λ (r : Result E TableFault). r >>= behind) e.1 in
          let same : e.0 ≡ fault = same_fault {A = List E} e.0 fault (sym stops ∙ h) in
          let w =
          entry_refused (faults.BadEntry kind (length earlier)) fault (passes earlier) read
          (field area (length earlier * size) size) (e.1
          ∙ ap (λ (f : TableFault). stopped {A = E} f) same) in
          record {
            index = 0;
            before = earlier;
            inside = omega arith;
            count = omega arith;
            good = refl;
            refused = w.0;
            named = w.1;
          }
    ]
