use Rattle.std.proofs.Common.{◌≡◌, ◌-◌, ◌<◌, inl, inr, replicate, ◌+◌, ◌/◌, ◌≤◌, ℕ, List, [], ◌∷◌}
use Rattle.std.proofs.Common.{◌++◌, length, take, get_or, All, sym, ap, ◌∙◌, subst, arith, add-one}
use Rattle.std.proofs.Math.Seq.{take-suc}
use Rattle.std.proofs.lemmas.Bool.{cases_lt}
use Rattle.std.proofs.lemmas.List.{take_all, length-take-le, ext_get_or, length-replicate}
use Rattle.std.proofs.lemmas.List.{get_or-replicate}
use Rattle.std.proofs.lemmas.List.Elements.{All-push}
use Rattle.vab_exceptions.specs.declared.area.Exception.{Exception}
use Rattle.vab_exceptions.specs.Entries.{FitsEntry, area_bytes, area_of, put_entry}
use Rattle.vab_exceptions.proofs.EntryLaws.{put_none, put_more, area_of-bytes}
use Rattle.vab_exceptions.proofs.area.encode_area.Goals as goal

-- each byte is zero
zeros : (xs : List ℕ) (n : ℕ)
    → length xs ≡ n
    → ((k d : ℕ) → k < n - 1 → get_or xs k d ≡ 0)
    → (0 < n → (d : ℕ) → get_or xs (n - 1) d ≡ 0)
    → xs ≡ replicate n 0
zeros xs n long before last =
    ext_get_or 0 xs (replicate n 0) (long ∙ sym (length-replicate n 0))
    (λ k below. elim (cases_lt k (n - 1)) [
      | inl less ↦ before k 0 less ∙ sym (get_or-replicate n k 0 0 (omega (arith, below, long)))
      | inr most ↦
          let is : n - 1 ≡ k = omega (arith, below, long, most) in
          subst (λ (j : ℕ). get_or xs j 0 ≡ get_or (replicate n 0) j 0) is
          (last (omega (arith, below, long)) 0
          ∙ sym (get_or-replicate n (n - 1) 0 0 (omega (arith, below, long))))
    ])

pub loop-i-init : goal.loop-i-init
loop-i-init c = record {
  bytes = zeros c.fill.new.self (length c.args.bytes.now) c.fill.ensures.len
      (λ k d below. c.fill.ensures.clones_before_last k d (omega arith) below)
      (λ some d. c.fill.ensures.last some d)
      ∙ put_none (length c.args.bytes.now);
  fit = λ k d below. absurd (omega (arith, below));
}

pub loop-i-preserved : goal.loop-i-preserved
loop-i-preserved c =
    let es : List Exception = c.as_slice-entry-items.result.now in
    let n = c.loop-i.i in
    let none : Exception = record { old_chunk = 0; new_chunk = 0 } in
    let e : Exception = get_or es n none in
    let more : take (n + 1) es ≡ take n es ++ (e ∷ []) =
    rw add-one (take-suc es n none c.loop-i-test.true) in
    let long : length (take n es) ≡ n = length-take-le n es (omega arith) in
    record {
      bytes =
          c.put_entry.ensures.bytes
          ∙ ap (λ (b : List ℕ). put_entry b n e) c.loop-i.invariant.bytes
          ∙ ap (λ (k : ℕ). put_entry (area_bytes (length c.args.bytes.now) (take n es)) k e)
          (sym long)
          ∙ put_more (length c.args.bytes.now) (take n es) e
          ∙ ap (area_bytes (length c.args.bytes.now)) (sym more);
      fit = subst (All FitsEntry) (sym more)
          (All-push FitsEntry (take n es) e c.loop-i.invariant.fit c.put_entry.ensures.fits);
    }

pub returns-clause-bytes : goal.returns-clause-bytes
returns-clause-bytes c =
    let es : List Exception = c.as_slice-entry-items.result.now in
    c.loop-i.invariant.bytes
    ∙ ap (area_bytes (length c.args.bytes.now))
    (take_all c.loop-i.i es (omega arith) ∙ c.as_slice-entry-items.ensures.value)

pub returns-clause-read : goal.returns-clause-read
returns-clause-read c = λ all.
    let es : List Exception = c.as_slice-entry-items.result.now in
    let whole : take c.loop-i.i es ≡ c.args.area.now.items =
    take_all c.loop-i.i es (omega arith) ∙ c.as_slice-entry-items.ensures.value in
    let few : length c.args.area.now.items ≤ length c.args.bytes.now / 16 =
    omega (
      arith,
      ap length c.as_slice-entry-items.ensures.value,
      c.as_slice-entry-items.ensures.fits,
    ) in
    ap (area_of (length c.args.bytes.now / 16))
    (c.loop-i.invariant.bytes ∙ ap (area_bytes (length c.args.bytes.now)) whole)
    ∙ area_of-bytes (length c.args.bytes.now) (length c.args.bytes.now / 16) c.args.area.now.items
    (omega arith) few all
    (subst (All FitsEntry) whole c.loop-i.invariant.fit)
