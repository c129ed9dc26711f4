-- The chunks that differ, one after another.
use Rattle.std.proofs.Common.{◌≡◌, ℕ, ◌+◌, ◌<◌, Bool, false, ◌&&◌, not, ltb, List, [], ◌∷◌, ◌++◌}
use Rattle.std.proofs.Common.{length, get_or, Option, Some, None, IfSome, option_map, inl, inr, sym}
use Rattle.std.proofs.Common.{ap, ◌∙◌, subst, arith, length-append, refl}
use Rattle.std.specs.List.Sorted.{IsStrictlyIncreasing}
use Rattle.std.specs.Str.{bytes_eq}
use Rattle.std.proofs.Math.ListN.{get_or-append}
use Rattle.std.proofs.Math.Seq.{get_or-append_seam}
use Rattle.std.proofs.lemmas.Bool.{cases_lt, le-ltb}
use Rattle.std.proofs.lemmas.List.Elements.{All-push}
use Rattle.vab_disk.specs.Disk.{Image}
use Rattle.vab_space.specs.declared.Chunk.{Chunk}
use Rattle.vab_space.proofs.DifferingLaws.{differing_same as chunks_same}
use Rattle.vab_store.specs.Layout.{chunk_bytes}
use Rattle.vab_store.specs.Writing.{block_of}
use Rattle.vab_install.specs.Differing.{differs_at, differing_of, AscendsBelow}
use Rattle.vab_install.specs.Pushed.{IsPushed}

-- ---- a list that grows

pub ascends_none : (n most : ℕ) → AscendsBelow n most 0 []
ascends_none n most = record {
  ascend = λ k lt. absurd (omega (arith, lt));
  below = λ k d lt. absurd (omega (arith, lt));
  counted = refl;
  few = omega arith;
}

pub ascends_wider : (n most count : ℕ) (olds : List ℕ)
    → AscendsBelow n most count olds
    → AscendsBelow (n + 1) most count olds
ascends_wider n most count olds is = record {
  ascend = is.ascend;
  below = λ k d lt. omega (arith, is.below k d lt);
  counted = is.counted;
  few = is.few;
}

pushed_ascends : (n most count : ℕ) (olds : List ℕ)
    → AscendsBelow n most count olds
    → IsStrictlyIncreasing (olds ++ n ∷ [])
pushed_ascends n most count olds is k lt =
    let long : length (olds ++ n ∷ []) ≡ length olds + 1 = length-append olds (n ∷ []) in
    let at_k : get_or (olds ++ n ∷ []) k 0 ≡ get_or olds k 0 =
    get_or-append olds (n ∷ []) 0 k (omega (arith, lt, long)) in
    elim (cases_lt (k + 1) (length olds)) [
      | inl inside ↦
          let at_next : get_or (olds ++ n ∷ []) (k + 1) 0 ≡ get_or olds (k + 1) 0 =
          get_or-append olds (n ∷ []) 0 (k + 1) inside in
          omega (arith, at_k, at_next, is.ascend k inside)
      | inr last ↦
          let end : length olds ≡ k + 1 = omega (arith, last, lt, long) in
          let at_next : get_or (olds ++ n ∷ []) (k + 1) 0 ≡ n =
          ap (λ (j : ℕ). get_or (olds ++ n ∷ []) j 0) (sym end) ∙ get_or-append_seam olds n [] 0 in
          omega (arith, at_k, at_next, is.below k 0 (omega (arith, end)))
    ]

pub ascends_more : (n most count : ℕ) (olds : List ℕ)
    → length olds < most
    → AscendsBelow n most count olds
    → AscendsBelow (n + 1) most (count + 1) (olds ++ n ∷ [])
ascends_more n most count olds room is =
    let wider = ascends_wider n most count olds is in
    record {
      ascend = pushed_ascends n most count olds is;
      below = All-push (λ (old : ℕ). old < n + 1) olds n wider.below (omega arith);
      counted = omega (arith, length-append olds (n ∷ []), is.counted);
      few = omega (arith, room, is.counted);
    }

-- what holds of a list that was pushed to, where what held before gives it
pub pushed_keeps : {X : Type 0} (items : X → List ℕ) (n most : ℕ) (old new : Option X)
    (P Q : List ℕ → Type 0)
    → IsPushed (option_map items old) n most (option_map items new)
    → ((l : List ℕ) → length l < most → P l → Q (l ++ n ∷ []))
    → IfSome old (λ x. P (items x))
    → IfSome new (λ x. Q (items x))
pushed_keeps items n most old None P Q is step before = tt
pushed_keeps items n most None (Some new) P Q is step before = absurd is
pushed_keeps items n most (Some old) (Some new) P Q is step before =
    subst Q (sym is.0) (step (items old) is.1 before)

-- ---- what the chunks that differ depend on

-- they depend on the partition's blocks alone
differs_same : (base : List ℕ) (old new : Image) (staged : List ℕ) (i : ℕ)
    → ((k : ℕ) → k < length base → chunk_bytes base new k ≡ chunk_bytes base old k)
    → differs_at base new staged i ≡ differs_at base old staged i
differs_same base old new staged i same = elim (cases_lt i (length base)) [
  | inl inside ↦
      ap (λ (b : List ℕ). not (ltb i (length base) && bytes_eq b (block_of staged i)))
      (same i inside)
  | inr behind ↦
      let past : ltb i (length base) ≡ false = le-ltb i (length base) behind in
      ap (λ (t : Bool). not (t && bytes_eq (chunk_bytes base new i) (block_of staged i))) past
      ∙ ap (λ (t : Bool). not (t && bytes_eq (chunk_bytes base old i) (block_of staged i)))
      (sym past)
]

pub differing_same : (k : Chunk) (base : List ℕ) (old new : Image) (staged : List ℕ) (blocks : ℕ)
    → ((i : ℕ) → i < length base → chunk_bytes base new i ≡ chunk_bytes base old i)
    → differing_of k base new staged blocks ≡ differing_of k base old staged blocks
differing_same k base old new staged blocks same =
    chunks_same k (differs_at base new staged) (differs_at base old staged) blocks
    (λ i below. differs_same base old new staged i same)
