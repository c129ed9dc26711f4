-- The lowest data chunk that no exception has.
use Rattle.std.proofs.Common.{◌≡◌, ◌≢◌, inl, inr, ℕ, ◌+◌, ◌≤◌, ◌<◌, ◌%◌}
use Rattle.std.proofs.Common.{List, [], ◌∷◌, length, set, sym, ◌∙◌, ap, subst}
use Rattle.std.proofs.Common.{arith, Bool, true, false, cond}
use Rattle.std.specs.List.{count_by, prefix_len}
use Rattle.std.proofs.lemmas.Bool.{cases_lt, cases_eq}
use Rattle.std.proofs.lemmas.List.{get_or-set_same, get_or-set_other, length-set}
use Rattle.std.proofs.lemmas.List.Sums.{sum_by-cons, sum_by-set, prefix_len_passes}
use Rattle.std.proofs.lemmas.List.Sums.{prefix_len_stops}
use Rattle.vab_exceptions.specs.declared.area.Exception.{Exception}
use Rattle.vab_space.specs.declared.Chunk.{Chunk}
use Rattle.vab_space.specs.declared.Chunk.TheVariants.{One, Two, Four}
use Rattle.vab_space.specs.Chunks.{is_data, new_chunk_of, entry_of, entries_in}
use Rattle.vab_space.proofs.ChunkLaws.{data_some, data_other, data_tested, new_chunk_some}
use Rattle.vab_space.proofs.ChunkLaws.{new_chunk_place, new_chunk_entry, new_chunks_ascend}
use Rattle.vab_store.specs.Free.{is_set, flag_at, AreData, AreTaken}
use Rattle.vab_store.specs.Setting.{IsNamed, IsLowestFree}
use Rattle.vab_store.specs.View.{exception_at}

-- ---- data chunks in their order

chunk_of_entry : (k : Chunk) (c : ℕ)
    → c ≢ 0
    → c % (entries_in k + 1) ≢ 1
    → new_chunk_of k (entry_of k c) ≡ c
chunk_of_entry One c some other = omega (arith, some, other)
chunk_of_entry Two c some other = omega (arith, some, other)
chunk_of_entry Four c some other = omega (arith, some, other)

pub data_numbered : (k : Chunk) (c : ℕ)
    → is_data k c ≡ true
    → new_chunk_of k (entry_of k c) ≡ c
data_numbered k c is = chunk_of_entry k c (data_some k c is) (data_other k c is)

pub new_chunk_data : (k : Chunk) (j : ℕ) → is_data k (new_chunk_of k j) ≡ true
new_chunk_data k j =
    data_tested k (new_chunk_of k j) (new_chunk_some k j) (new_chunk_place k j)

-- a data chunk below the j-th is an earlier one
data_earlier : (k : Chunk) (c j : ℕ)
    → is_data k c ≡ true
    → c < new_chunk_of k j
    → entry_of k c < j
data_earlier k c j is below =
    elim (cases_lt (entry_of k c) j) [
      | inl before ↦ before
      | inr behind ↦ elim (cases_eq (entry_of k c) j) [
        | inl same ↦
            absurd (omega (arith, below, data_numbered k c is, ap (new_chunk_of k) same))
        | inr other ↦
            absurd (omega (
              arith,
              below,
              data_numbered k c is,
              new_chunks_ascend k j (entry_of k c) (omega (arith, behind, other)),
            ))
      ]
    ]

-- the first data chunks, up to one
pub new_chunk_most : (k : Chunk) (i j : ℕ) → i ≤ j → new_chunk_of k i ≤ new_chunk_of k j
new_chunk_most k i j le =
    elim (cases_eq i j) [
      | inl same ↦ omega (arith, ap (new_chunk_of k) same)
      | inr other ↦ omega (arith, new_chunks_ascend k i j (omega (arith, le, other)))
    ]

-- ---- flags

-- where fewer are set than there are, one isn't
pub one_clear : (flags : List Bool)
    → count_by is_set flags < length flags
    → prefix_len is_set flags < length flags
one_clear [] fewer = absurd (omega (arith, fewer))
one_clear (true ∷ flags) fewer =
    let count : count_by is_set (true ∷ flags) ≡ 1 + count_by is_set flags =
    sum_by-cons (λ (b : Bool). cond b 1 0) true flags in
    omega (arith, one_clear flags (omega (arith, fewer, count)))
one_clear (false ∷ flags) fewer = omega arith

flag_here : (flags : List Bool) (i : ℕ) → i < length flags → flag_at (set flags i true) i ≡ true
flag_here flags i below = get_or-set_same flags i true false below

flag_there : (flags : List Bool) (i j : ℕ)
    → j ≢ i
    → flag_at (set flags i true) j ≡ flag_at flags j
flag_there flags i j other = get_or-set_other flags i j true false other

count_more : (flags : List Bool) (i : ℕ)
    → i < length flags
    → count_by is_set (set flags i true) ≤ count_by is_set flags + 1
count_more flags i below =
    omega (arith, sum_by-set (λ (b : Bool). cond b 1 0) flags i true false below)

-- ---- the chunks that exceptions have

module _ (k : Chunk) (es : List Exception) (n number : ℕ) (flags : List Bool)
    (so_far : AreTaken k es n flags)
    (below : n < length es)
    (is : is_data k (exception_at es n).new_chunk ≡ true)
    (number_is : number ≡ entry_of k (exception_at es n).new_chunk) where
  -- an exception whose chunk has another number is an earlier one
  earlier : (j : ℕ) → j < n + 1 → entry_of k (exception_at es j).new_chunk ≢ number → j < n
  earlier j lt other = elim (cases_eq j n) [
    | inl same ↦
        absurd (other (ap (λ (i : ℕ). entry_of k (exception_at es i).new_chunk) same
        ∙ sym number_is))
    | inr before ↦ omega (arith, lt, before)
  ]

  -- one more exception, whose chunk is one of the first
  pub taken_more : number < length flags → AreTaken k es (n + 1) (set flags number true)
  taken_more inside =
      let longer = length-set flags number true in
      record {
        counted = longer ∙ so_far.counted;
        named = λ i set_so. elim (cases_eq i number) [
          | inl here ↦ record {
            place = n;
            within = below;
            new_is =
                sym (data_numbered k (exception_at es n).new_chunk is)
                ∙ ap (new_chunk_of k) (sym number_is ∙ sym here);
          }
          | inr other ↦ so_far.named i (sym (flag_there flags number i other) ∙ set_so)
        ];
        taken = λ j lt fits.
            let m : ℕ = entry_of k (exception_at es j).new_chunk in
            elim (cases_eq m number) [
              | inl here ↦ ap (flag_at (set flags number true)) here ∙ flag_here flags number inside
              | inr other ↦
                  flag_there flags number m other
                  ∙ so_far.taken j (earlier j lt other) (omega (arith, fits, longer))
            ];
        few = omega (arith, count_more flags number inside, so_far.few);
      }

  -- or not
  pub taken_same : length flags ≤ number → AreTaken k es (n + 1) flags
  taken_same outside = record {
    counted = so_far.counted;
    named = so_far.named;
    taken = λ j lt fits. so_far.taken j (earlier j lt (λ here. omega (arith, fits, outside, here)))
        fits;
    few = omega (arith, so_far.few);
  }

module _ (k : Chunk) (es : List Exception) (flags : List Bool)
    (all : AreTaken k es (length es) flags) where
  first : ℕ
  first = prefix_len is_set flags

  pub first_within : prefix_len is_set flags ≤ length es
  first_within =
      omega (arith, one_clear flags (omega (arith, all.few, all.counted)), all.counted)

  pub first_free : AreData k es → IsLowestFree k es (new_chunk_of k (prefix_len is_set flags))
  first_free are_data =
      let i : ℕ = prefix_len is_set flags in
      let inside : i < length flags = omega (arith, first_within, all.counted) in
      record {
        data_chunk = new_chunk_data k i;
        free = λ j below same.
            let number : entry_of k (exception_at es j).new_chunk ≡ i =
            ap (entry_of k) same ∙ new_chunk_entry k i in
            let set_so : flag_at flags i ≡ true =
            ap (flag_at flags) (sym number)
            ∙ all.taken j below (omega (arith, number, inside)) in
            let clear : flag_at flags i ≡ false = prefix_len_stops is_set flags false inside in
            cc;
        lowest = λ c below is.
            let early : entry_of k c < i = data_earlier k c i is below in
            subst (IsNamed es) (data_numbered k c is)
            (all.named (entry_of k c) (prefix_len_passes is_set flags (entry_of k c) false early));
      }
