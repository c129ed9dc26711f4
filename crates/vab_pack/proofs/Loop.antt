-- Taking words one after the other, as a loop does.
use Rattle.std.proofs.Common.{◌≡◌, ℕ, false, ltb, ◌+◌, ◌<◌, ◌≤◌, List, [], ◌∷◌, ◌++◌, length}
use Rattle.std.proofs.Common.{get_or, drop, map, Result, Ok, Err, refl, sym, ap, ◌∙◌, drop-cons}
use Rattle.std.proofs.Common.{add-one, arith}
use Rattle.std.proofs.lemmas.Bool.{le-ltb}
use Rattle.std.proofs.lemmas.List.{drop_all, length-map}
use Rattle.vab_names.specs.Names.{most_partitions}
use Rattle.vab_pack.specs.declared.fault.WordFault.{WordFault}
use Rattle.vab_pack.specs.declared.fault.WordFault.TheVariants as faults
use Rattle.vab_pack.specs.Asked.{Asked}
use Rattle.vab_pack.specs.Words.{Fails, asked_by, asked_behind, asked_of}

module _ {S : Type 0} (text : S → List ℕ) (words : List S) (i : ℕ)
    (total : Result (List Asked) WordFault) where
  more : (word : S)
      → i < length words
      → word ≡ get_or words i word
      → map text (drop i words) ≡ text word ∷ map text (drop (i + 1) words)
  more word lt is =
      let first : drop i words ≡ get_or words i word ∷ drop (i + 1) words =
      rw add-one (drop-cons words i word lt) in
      ap (map text) first ∙ ap (λ (w : S). text w ∷ map text (drop (i + 1) words)) (sym is)

  pub goes_on : (asked : List Asked) (word : S) (a : Asked)
      → i < length words
      → word ≡ get_or words i word
      → asked_by asked (text word) ≡ Ok a
      → asked_behind asked (map text (drop i words)) ≡ total
      → asked_behind (asked ++ a ∷ []) (map text (drop (i + 1) words)) ≡ total
  unfolding asked_behind
  goes_on asked word a lt is h so_far =
      let one : asked_behind asked (map text (drop i words))
      ≡ asked_behind (asked ++ a ∷ []) (map text (drop (i + 1) words)) =
      rw (more word lt is, h) refl in
      sym one ∙ so_far

  pub ends : (fault : WordFault) (asked : List Asked) (word : S)
      → i < length words
      → word ≡ get_or words i word
      → Fails fault (asked_by asked (text word))
      → asked_behind asked (map text (drop i words)) ≡ total → Fails fault total
  unfolding asked_behind
  ends faults.NoMemory asked word lt is h so_far = tt
  ends fault asked word lt is h so_far =
      let one : asked_behind asked (map text (drop i words)) ≡ Err fault =
      rw (more word lt is, h) refl in
      sym so_far ∙ one

  pub is_done : (asked : List Asked)
      → length words ≤ i
      → asked_behind asked (map text (drop i words)) ≡ total
      → total ≡ Ok asked
  unfolding asked_behind
  is_done asked le so_far =
      let none : drop i words ≡ [] = drop_all i words le in
      sym so_far ∙ rw none refl

pub few : {S : Type 0} (text : S → List ℕ) (words : List S)
    → length words ≤ most_partitions
    → asked_of (map text words) ≡ asked_behind [] (map text words)
unfolding asked_of
few text words le =
    let no : ltb most_partitions (length (map text words)) ≡ false =
    le-ltb _ _ (omega (arith, length-map words text, le)) in
    rw no refl
