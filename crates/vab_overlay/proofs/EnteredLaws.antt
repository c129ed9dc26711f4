-- The list of exceptions with a block's new one keeps the rules of its store.
use Rattle.std.proofs.Common.{◌≡◌, ◌≢◌, inl, inr, ⊎_elim, ℕ, ◌+◌, ◌/◌, ◌%◌, ◌≤◌, ◌<◌, List, length}
use Rattle.std.proofs.Common.{sym, ◌∙◌, ap, subst, arith}
use Rattle.std.proofs.lemmas.Bool.{cases_lt, cases_eq}
use Rattle.vab_exceptions.specs.declared.area.Exception.{Exception}
use Rattle.vab_space.specs.Space.{need_of}
use Rattle.vab_space.specs.declared.Chunk.TheVariants.{One}
use Rattle.vab_space.specs.Chunks.{need_at, new_chunk_of, page_block}
use Rattle.vab_space.proofs.ChunkLaws.{room_for, data_chunk_within, page_within}
use Rattle.vab_store.specs.Layout.{slots_of}
use Rattle.vab_store.specs.Setting.{entry_place, set_entry, HaveData, IsLowestFree}
use Rattle.vab_store.specs.View.{exception_at, Fits, Lies, AreOther}
use Rattle.vab_store.proofs.SettingLaws.{exception_of, held_or_not, length-set_held}
use Rattle.vab_store.proofs.SettingLaws.{length-set_behind, set_entry-here, set_entry-there}
use Rattle.vab_store.proofs.SettingLaws.{place_most}

-- ---- room for one exception more

pub needed_at : (n blocks : ℕ) → need_of n ≤ blocks → need_at n One ≤ blocks
needed_at n blocks enough = omega (arith, enough)

-- the entry behind it has a page
pub room_behind : (n : ℕ) (store : List ℕ)
    → need_of (n + 1) ≤ length store
    → n + 1 < slots_of One store
room_behind n store enough =
    room_for One (n + 1) (length store) (needed_at (n + 1) (length store) enough)

-- a free data chunk stands in the store
pub free_inside : (n chunk : ℕ) (store : List ℕ)
    → need_of (n + 1) ≤ length store
    → chunk ≤ new_chunk_of One n
    → chunk < length store
free_inside n chunk store enough most =
    let last : new_chunk_of One n < length store =
    data_chunk_within One (n + 1) (length store) n (needed_at (n + 1) (length store) enough)
    (omega arith) in
    omega (arith, last, most)

-- the page behind one that is filled stands in the store
pub next_inside : (n : ℕ) (store : List ℕ)
    → need_of (n + 1) ≤ length store
    → n % 256 ≡ 255
    → page_block One (n / 256 + 1) < length store
next_inside n store enough fills =
    let page : (n + 1) / 256 ≡ n / 256 + 1 = omega (arith, fills) in
    let inside : page_block One ((n + 1) / 256) < need_at (n + 1) One =
    page_within One (n + 1) (n + 1) (omega arith) in
    omega (
      arith,
      inside,
      needed_at (n + 1) (length store) enough,
      ap (page_block One) page,
    )

-- the exceptions of a store have data chunks of their own
pub fits_data : (bound : ℕ) (store : List ℕ) (es : List Exception)
    → Fits One bound store es
    → HaveData One es
fits_data bound store es fits = record {
  data_chunk = λ j below. (fits.lie j below).is_data;
  once = λ i j order below. (fits.once i j order below).new_chunk;
}

-- ---- the list

module _ (es : List Exception) (block chunk : ℕ) where
  -- another exception than the block's was there before
  pub was_there : (j : ℕ)
      → j < length (set_entry es block chunk)
      → j ≢ entry_place es block
      → j < length es
  was_there j below other =
      elim (cases_lt (entry_place es block) (length es)) [
        | inl held ↦ omega (arith, below, length-set_held es block chunk held)
        | inr behind ↦
            omega (
              arith,
              below,
              other,
              length-set_behind es block chunk behind,
              behind,
              place_most es block,
            )
      ]

  -- its place is in the list
  pub place_inside : entry_place es block < length (set_entry es block chunk)
  place_inside =
      elim (cases_lt (entry_place es block) (length es)) [
        | inl held ↦ omega (arith, held, length-set_held es block chunk held)
        | inr behind ↦
            omega (arith, place_most es block, length-set_behind es block chunk behind)
      ]

  -- at most one is added
  pub few_more : length (set_entry es block chunk) ≤ length es + 1
  few_more =
      elim (cases_lt (entry_place es block) (length es)) [
        | inl held ↦ omega (arith, length-set_held es block chunk held)
        | inr behind ↦ omega (arith, length-set_behind es block chunk behind)
      ]

  -- no other one has the block
  pub other_old : (bound : ℕ) (store : List ℕ)
      → Fits One bound store es
      → (j : ℕ)
      → j < length es
      → j ≢ entry_place es block
      → (exception_at es j).old_chunk ≢ block
  other_old bound store fits j below other same =
      ⊎_elim
      (λ held. elim (cases_lt j (entry_place es block)) [
        | inl before ↦
            (fits.once j (entry_place es block) before held.within).old_chunk
            (same ∙ sym held.old_is)
        | inr behind ↦
            (fits.once (entry_place es block) j (omega (arith, behind, other)) below).old_chunk
            (held.old_is ∙ sym same)
      ])
      (λ none. none.0 j below same)
      (held_or_not es block)

  -- what stands at a place, if it is the block's
  pub at_place : (j : ℕ)
      → j ≡ entry_place es block
      → exception_at (set_entry es block chunk) j ≡ exception_of block chunk
  at_place j here =
      ap (exception_at (set_entry es block chunk)) here
      ∙ set_entry-here es block chunk

  pub entered_fits : (bound : ℕ) (store : List ℕ)
      → Fits One bound store es
      → block < bound
      → IsLowestFree One es chunk
      → chunk < length store
      → need_of (length es + 1) ≤ length store
      → Fits One bound store (set_entry es block chunk)
  entered_fits bound store fits above lowest inside enough =
      let p : ℕ = entry_place es block in
      let new : List Exception = set_entry es block chunk in
      let e : Exception = exception_of block chunk in
      let ours : (j : ℕ) → j < length es → j ≢ p → AreOther e (exception_at es j) =
      λ j below other. record {
        old_chunk = λ same. other_old bound store fits j below other (sym same);
        new_chunk = λ same. lowest.free j below (sym same);
      } in
      let flipped : (j : ℕ) → j < length es → j ≢ p → AreOther (exception_at es j) e =
      λ j below other. record {
        old_chunk = other_old bound store fits j below other;
        new_chunk = lowest.free j below;
      } in
      record {
        chunks = fits.chunks;
        room = omega (arith, few_more, room_behind (length es) store enough);
        lie = λ j below. elim (cases_eq j p) [
          | inl here ↦
              let lies : Lies One (length store) bound e = record {
                old_chunk = above;
                new_chunk = inside;
                is_data = lowest.data_chunk;
              } in
              subst (Lies One (length store) bound) (sym (at_place j here)) lies
          | inr other ↦
              let there : j < length es = was_there j below other in
              subst (Lies One (length store) bound)
              (sym (set_entry-there es block chunk j other there))
              (fits.lie j there)
        ];
        once = λ i j order below. elim (cases_eq i p) [
          | inl i_here ↦
              let j_other : j ≢ p = λ same. omega (arith, same, i_here, order) in
              let j_there : j < length es = was_there j below j_other in
              subst (λ (x : Exception). AreOther x (exception_at new j)) (sym (at_place i i_here))
              (subst (AreOther e) (sym (set_entry-there es block chunk j j_other j_there))
              (ours j j_there j_other))
          | inr i_other ↦
              let i_there : i < length es = was_there i (omega (arith, order, below)) i_other in
              subst (λ (x : Exception). AreOther x (exception_at new j))
              (sym (set_entry-there es block chunk i i_other i_there))
              (elim (cases_eq j p) [
                | inl j_here ↦
                    subst (AreOther (exception_at es i)) (sym (at_place j j_here))
                    (flipped i i_there i_other)
                | inr j_other ↦
                    let j_there : j < length es = was_there j below j_other in
                    subst (AreOther (exception_at es i))
                    (sym (set_entry-there es block chunk j j_other j_there))
                    (fits.once i j order j_there)
              ])
        ];
      }
