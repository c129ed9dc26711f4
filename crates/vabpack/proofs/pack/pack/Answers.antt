use Rattle.std.proofs.Common.{◌≡◌, List, [], ◌∷◌, true, length, eqb, Ok, Result, map, string_bytes}
use Rattle.std.proofs.Common.{refl, sym, ap, ◌∙◌, subst, arith}
use Rattle.std.proofs.lemmas.Bool.{eqb-true}
use Rattle.vab_pack.specs.Asked.{Asked}
use Rattle.vab_pack.specs.declared.fault.WordFault.{WordFault}
use Rattle.vabpack.specs.Packed.{AreKnownAs, HasUnfit}
use Rattle.vabpack.proofs.Refusals.{none_large, long_is_refused, large_is_refused}
use Rattle.vabpack.proofs.pack.pack.Goals as goal

abbrev ok : List Asked → Result (List Asked) WordFault
ok asked = Ok asked

same : (asked others : List Asked) → ok asked ≡ ok others → asked ≡ others
same asked others e = cc

empty : {X : Type 0} (xs : List X) → eqb (length xs) 0 ≡ true → xs ≡ []
empty [] e = refl
empty (x ∷ xs) e = let none : length (x ∷ xs) ≡ 0 = eqb-true _ 0 e in absurd (omega (arith, none))

pub returns-then-is_empty-clause-large : goal.returns-then-is_empty-clause-large
returns-then-is_empty-clause-large g c = λ asked images asks known.
    none_large (g.S.Source.bytes_at c.args.source.now) (map string_bytes c.args.words.now) asked
    images (ap (map string_bytes) (empty c.args.words.now
    (sym c.is_empty.ensures ∙ c.if-is_empty.true))) asks known

pub returns-clause-long : goal.returns-clause-long
returns-clause-long g c = λ asked asks long.
    let files = g.S.Source.bytes_at c.args.source.now in
    let is : asked ≡ c.deref.result.now =
    same asked c.in_ok-entries.entries.items (c.in_ok-entries.ensures.only asked asks)
    ∙ sym c.deref.ensures.value in
    long_is_refused (λ v. v.items) files (g.S.Source.fails c.args.source.now) c.deref.result.now
    c.pack_entries.result c.pack_entries.ensures.set c.pack_entries.ensures.refused
    (subst (HasUnfit files) is long)

pub returns-clause-large : goal.returns-clause-large
returns-clause-large g c = λ asked images asks known.
    let files = g.S.Source.bytes_at c.args.source.now in
    let is : asked ≡ c.deref.result.now =
    same asked c.in_ok-entries.entries.items (c.in_ok-entries.ensures.only asked asks)
    ∙ sym c.deref.ensures.value in
    large_is_refused (λ v. v.items) files (g.S.Source.fails c.args.source.now) c.deref.result.now
    images c.pack_entries.result c.pack_entries.ensures.set c.pack_entries.ensures.refused
    (subst (λ (l : List Asked). AreKnownAs files l images) is known)
