-- What the test says whether a store's list ends clean.
use Rattle.std.proofs.Common.{◌≡◌, ◌≢◌, ◌↔◌, inl, inr, ℕ, zero, suc, ◌+◌, ◌-◌, ◌*◌, ◌/◌, ◌%◌, ◌≤◌}
use Rattle.std.proofs.Common.{◌<◌}
use Rattle.std.proofs.Common.{List, [], ◌∷◌, refl, sym, ◌∙◌, ap, arith, Bool, true, false}
use Rattle.std.specs.List.{list_all}
use Rattle.std.proofs.lemmas.Bool.{cases_lt, cases_Bool, eq-eqb, eqb-true, and_parts, and_from}
use Rattle.std.proofs.lemmas.List.Folds.{list_all-append}
use Rattle.vab_disk.specs.Disk.{Image}
use Rattle.vab_exceptions.specs.Entries.{entry_at, firsts}
use Rattle.vab_space.specs.declared.Chunk.TheVariants.{One}
use Rattle.vab_space.specs.Chunks.{page_block, page_entries}
use Rattle.vab_store.specs.Layout.{chunk_bytes, slot_at}
use Rattle.vab_store.specs.Clean.{EndsClean, is_none, is_clear, ends_clean}
use Rattle.vab_store.specs.Reached.{IsReached}
use Rattle.vab_store.proofs.ChunkLaws.{chunk_same}

-- ---- a test of each of the first values

all_firsts : {X : Type 0} (p : X → Bool) (f : ℕ → X) (n : ℕ)
    → ((i : ℕ) → i < n → p (f i) ≡ true)
    → list_all p (firsts f n) ≡ true
unfolding firsts
all_firsts p f zero each = refl
all_firsts p f (suc n) each =
    list_all-append p (firsts f n) (f n ∷ [])
    ∙ and_from (list_all p (firsts f n)) (list_all p (f n ∷ []))
    (all_firsts p f n (λ i below. each i (omega (arith, below))))
    (and_from (p (f n)) true (each n (omega arith)) refl)

each_first : {X : Type 0} (p : X → Bool) (f : ℕ → X) (n : ℕ)
    → list_all p (firsts f n) ≡ true
    → (i : ℕ)
    → i < n
    → p (f i) ≡ true
unfolding firsts
each_first p f zero is i below = absurd (omega (arith, below))
each_first p f (suc n) is i below =
    let both = and_parts (list_all p (firsts f n)) (list_all p (f n ∷ []))
    (sym (list_all-append p (firsts f n) (f n ∷ [])) ∙ is) in
    elim (cases_lt i n) [
      | inl before ↦ each_first p f n both.0 i before
      | inr last ↦
          let same : i ≡ n = omega (arith, below, last) in
          ap (λ (k : ℕ). p (f k)) same ∙ (and_parts (p (f n)) true both.1).0
    ]

-- ---- a page

-- each entry from there on
abbrev pub IsClear : (page : List ℕ) → (from : ℕ) → Type 0
IsClear page from = (i : ℕ) → from ≤ i → i < 256 → (entry_at page i).new_chunk ≡ 0

pub clear_of : (page : List ℕ) (from : ℕ) → IsClear page from → is_clear page from ≡ true
unfolding is_clear
clear_of page from each =
    all_firsts is_none (λ i. entry_at page (from + i)) (256 - from)
    (λ i below.
    eq-eqb (entry_at page (from + i)).new_chunk 0
    (each (from + i) (omega arith) (omega (arith, below))))

pub of_clear : (page : List ℕ) (from : ℕ) → is_clear page from ≡ true → IsClear page from
unfolding is_clear
of_clear page from is i behind below =
    let at : from + (i - from) ≡ i = omega (arith, behind) in
    ap (λ (k : ℕ). (entry_at page k).new_chunk) (sym at)
    ∙ eqb-true (entry_at page (from + (i - from))).new_chunk 0
    (each_first is_none (λ k. entry_at page (from + k)) (256 - from) is (i - from)
    (omega (arith, behind, below)))

pub clear_fails : (page : List ℕ) (from i : ℕ)
    → from ≤ i
    → i < 256
    → (entry_at page i).new_chunk ≢ 0
    → is_clear page from ≡ false
clear_fails page from i behind below other =
    elim (cases_Bool (is_clear page from)) [
      | inl clear ↦ absurd (other (of_clear page from clear i behind below))
      | inr not_clear ↦ not_clear
    ]

-- ---- the page in which a list ends

-- the test holds exactly where the list ends clean
pub clean_exactly : (store : List ℕ) (count : ℕ) (image : Image)
    → (ends_clean store count image ≡ true) ↔ EndsClean store count image
unfolding ends_clean slot_at
clean_exactly store count image =
    let page : List ℕ = chunk_bytes store image (page_block One (count / 256)) in
    let entry : ℕ → ℕ → ℕ = λ p i.
    (entry_at (chunk_bytes store image (page_block One p)) i).new_chunk in (
      λ is t behind same.
          ap (λ (p : ℕ). entry p (t % 256)) same
          ∙ of_clear page (count % 256) is (t % 256) (omega (arith, behind, same)) (omega arith),
      λ clean.
          clear_of page (count % 256)
          (λ i behind below.
          let t : ℕ = 256 * (count / 256) + i in
          let same : t / 256 ≡ count / 256 = omega (arith, below) in
          let at : t % 256 ≡ i = omega (arith, below) in
          ap (entry (count / 256)) (sym at)
          ∙ ap (λ (p : ℕ). entry p (t % 256)) (sym same)
          ∙ clean t (omega (arith, behind)) same),
    )

-- it rests on the sectors that the list reaches
pub clean_kept : (store : List ℕ) (count : ℕ) (old new : Image)
    → ((s : ℕ) → IsReached One store count s → new s ≡ old s)
    → ends_clean store count new ≡ ends_clean store count old
unfolding ends_clean
clean_kept store count old new same =
    ap (λ (page : List ℕ). is_clear page (count % page_entries))
    (chunk_same store old new (page_block One (count / page_entries))
    (λ s here.
    same s (inr (record { entry = count; within = omega arith; here = here }))))
