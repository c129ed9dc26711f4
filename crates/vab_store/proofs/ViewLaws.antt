-- What is read through a store whose list loses its last exceptions.
use Rattle.std.proofs.Common.{◌≡◌, ◌≢◌, inl, inr, ℕ, zero, suc, ◌≤◌, ◌<◌, List, [], ◌∷◌, length}
use Rattle.std.proofs.Common.{take, sym, ◌∙◌, ap, subst, arith, true, ◌==◌, length-take-le}
use Rattle.std.specs.Prelude.{Some, None}
use Rattle.std.proofs.lemmas.Bool.{cases_Bool, eqb-true, eq-eqb}
use Rattle.std.proofs.lemmas.List.{get_or-take}
use Rattle.vab_exceptions.specs.declared.area.Exception.{Exception}
use Rattle.vab_space.specs.declared.Chunk.{Chunk}
use Rattle.vab_space.specs.Chunks.{chunks_for, is_data}
use Rattle.vab_store.specs.Layout.{chunks_of}
use Rattle.vab_store.specs.View.{no_exception, exception_at, view_of, Lies, AreOther, Fits}
use Rattle.vab_store.proofs.IndexLaws.{view_found, view_lacks}

-- an exception that has this old chunk and this new one
pub record IsIn (es : List Exception) (old chunk : ℕ) : Type 0 where
  pub place : ℕ
  pub within : place < length es
  pub old_is : (exception_at es place).old_chunk ≡ old
  pub new_is : (exception_at es place).new_chunk ≡ chunk

-- where a block has a chunk, an exception has both
pub view_in : (es : List Exception) (old chunk : ℕ) → view_of es old ≡ Some chunk
    → IsIn es old chunk
view_in [] old chunk is = absurd (cc)
view_in (e ∷ es) old chunk is =
    elim (cases_Bool (e.old_chunk == old)) [
      | inl here ↦
          let found : Some e.new_chunk ≡ Some chunk = (rw here at is) in
          record {
            place = 0;
            within = omega arith;
            old_is = eqb-true e.old_chunk old here;
            new_is = cc;
          }
      | inr other ↦
          let rest = view_in es old chunk (rw other at is) in
          record {
            place = suc rest.place;
            within = omega (arith, rest.within);
            old_is = rest.old_is;
            new_is = rest.new_is;
          }
    ]

-- a block with no chunk has no exception
pub view_out : (es : List Exception) (old : ℕ)
    → view_of es old ≡ None
    → (j : ℕ)
    → j < length es
    → (exception_at es j).old_chunk ≢ old
view_out [] old is j below same = omega (arith, below)
view_out (e ∷ es) old is zero below same =
    let test : (e.old_chunk == old) ≡ true = eq-eqb e.old_chunk old same in
    let failed : Some e.new_chunk ≡ None = (rw test at is) in
    absurd (cc)
view_out (e ∷ es) old is (suc j) below same =
    elim (cases_Bool (e.old_chunk == old)) [
      | inl here ↦
          let failed : Some e.new_chunk ≡ None = (rw here at is) in
          absurd (cc)
      | inr other ↦ view_out es old (rw other at is) j (omega (arith, below)) same
    ]

-- the chunk of a block lies in the store
pub view_chunk : {size : Chunk} (bound : ℕ) (map : List ℕ) (es : List Exception) (block chunk : ℕ)
    → Fits size bound map es
    → view_of es block ≡ Some chunk
    → Lies size (chunks_of size map) (chunks_for size bound)
    (record { old_chunk = block; new_chunk = chunk })
view_chunk {size} bound map es block chunk fits is =
    let found = view_in es block chunk is in
    let lie = fits.lie found.place found.within in
    record {
      old_chunk = omega (arith, lie.old_chunk, found.old_is);
      new_chunk = omega (arith, lie.new_chunk, found.new_is);
      is_data = subst (λ (c : ℕ). is_data size c ≡ true) found.new_is lie.is_data;
    }

-- ---- without the last exceptions

pub take-at : (es : List Exception) (n j : ℕ)
    → j < n
    → exception_at (take n es) j ≡ exception_at es j
take-at es n j below = get_or-take n es j no_exception below

pub take_fits : {size : Chunk} (bound : ℕ) (map : List ℕ) (es : List Exception) (n : ℕ)
    → n ≤ length es
    → Fits size bound map es
    → Fits size bound map (take n es)
take_fits {size} bound map es n within fits =
    let long : length (take n es) ≡ n = length-take-le n es within in
    record {
      chunks = fits.chunks;
      room = omega (arith, long, within, fits.room);
      lie = λ j below.
          let lt : j < n = omega (arith, below, long) in
          subst (Lies size (chunks_of size map) (chunks_for size bound)) (sym (take-at es n j lt))
          (fits.lie j (omega (arith, lt, within)));
      once = λ j k order below.
          let lt : k < n = omega (arith, below, long) in
          subst (λ (e : Exception). AreOther e (exception_at (take n es) k))
          (sym (take-at es n j (omega (arith, order, lt))))
          (subst (AreOther (exception_at es j)) (sym (take-at es n k lt))
          (fits.once j k order (omega (arith, lt, within))));
    }

once_olds : {size : Chunk} (bound : ℕ) (map : List ℕ) (es : List Exception)
    → Fits size bound map es
    → (i j : ℕ)
    → i < j
    → j < length es
    → (exception_at es i).old_chunk ≢ (exception_at es j).old_chunk
once_olds bound map es fits i j order below = (fits.once i j order below).old_chunk

-- an exception's block
pub view_at : {size : Chunk} (bound : ℕ) (map : List ℕ) (es : List Exception) (j : ℕ)
    → Fits size bound map es
    → j < length es
    → view_of es (exception_at es j).old_chunk ≡ Some (exception_at es j).new_chunk
view_at bound map es j fits below = view_found es j (once_olds bound map es fits) below

-- it is kept
pub view_kept : {size : Chunk} (bound : ℕ) (map : List ℕ) (es : List Exception) (n j : ℕ)
    → Fits size bound map es
    → n ≤ length es
    → j < n
    → view_of (take n es) (exception_at es j).old_chunk ≡ Some (exception_at es j).new_chunk
view_kept bound map es n j fits within below =
    let long : length (take n es) ≡ n = length-take-le n es within in
    let at_j = take-at es n j below in
    ap (λ (e : Exception). view_of (take n es) e.old_chunk) (sym at_j)
    ∙ view_at bound map (take n es) j (take_fits bound map es n within fits)
    (omega (arith, long, below))
    ∙ ap (λ (e : Exception). Some e.new_chunk) at_j

-- it is dropped
pub view_dropped : {size : Chunk} (bound : ℕ) (map : List ℕ) (es : List Exception) (n j : ℕ)
    → Fits size bound map es
    → n ≤ j
    → j < length es
    → view_of (take n es) (exception_at es j).old_chunk ≡ None
view_dropped bound map es n j fits behind below =
    let long : length (take n es) ≡ n = length-take-le n es (omega (arith, behind, below)) in
    view_lacks (take n es) (exception_at es j).old_chunk
    (λ k lt same.
    let in_n : k < n = omega (arith, lt, long) in
    (fits.once k j (omega (arith, in_n, behind)) below).old_chunk
    (ap (λ (e : Exception). e.old_chunk) (sym (take-at es n k in_n)) ∙ same))

-- another block
pub view_other : (es : List Exception) (n block : ℕ)
    → n ≤ length es
    → view_of es block ≡ None
    → view_of (take n es) block ≡ None
view_other es n block within none =
    let long : length (take n es) ≡ n = length-take-le n es within in
    view_lacks (take n es) block
    (λ k lt same.
    let in_n : k < n = omega (arith, lt, long) in
    view_out es block none k (omega (arith, in_n, within))
    (ap (λ (e : Exception). e.old_chunk) (sym (take-at es n k in_n)) ∙ same))
