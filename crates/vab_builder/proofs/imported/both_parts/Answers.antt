use Rattle.std.proofs.Common.{◌≡◌, ◌≤◌, ◌++◌, length, List, sym, ap, subst, ◌∙◌}
use Rattle.std.specs.Prelude.{All, OnOk}
use Rattle.std.proofs.lemmas.List.{map-id}
use Rattle.std.proofs.lemmas.Result.{IfOk-at_ok}
use Rattle.std.proofs.lemmas.Iterator.Adapters.{fact_from_extend, YieldsList-from_vec}
use Rattle.vab_layout.specs.declared.layout.Part.{Part}
use Rattle.vab_builder.proofs.ImportLaws.{own_parts_long}
use Rattle.vab_builder.proofs.imported.both_parts.Goals as goal

pub twin_parts-requires-clause-long : goal.twin_parts-requires-clause-long
twin_parts-requires-clause-long c =
    let source = c.args.source in
    let parts = c.args.parts.now in
    let is = c.as_slice.ensures.value ∙ c.in_ok-all.ensures in
    let named = own_parts_long source parts in
    let P : List Part → Type 0 = λ xs. All (λ p. (2 ≤ length p.name) × (2 ≤ length p.group)) xs in
    subst P (sym is) (λ k d lt. (named k d lt, c.requires.long k d lt))

pub returns : goal.returns
returns c =
    let own = c.in_ok-all.all.items in
    let twins = c.in_ok-twins.twins.items in
    let Joined = c.extend.new.self.items ≡ own ++ twins in
    let joined : OnOk c.extend.result Joined =
    fact_from_extend {Q = Joined} (λ x. x) c.extend.result c.extend.ensures.ran
    (λ it b. YieldsList-from_vec {s = it} _ b.0 (b.1 ∙ c.in_ok-twins.twins.ok.0)) (λ xs e h. h.0
    ∙ ap (λ (l : List Part). own ++ l) (sym (map-id xs) ∙ e)) in
    let is : Joined = IfOk-at_ok (λ _. Joined) c.in_ok-extend.was joined in
    let first = c.in_ok-all.ensures in
    let read = c.as_slice.ensures.value in
    let other = c.other_slot.ensures.value in
    let second = c.in_ok-twins.ensures in
    cc (is, first, read, other, second)
