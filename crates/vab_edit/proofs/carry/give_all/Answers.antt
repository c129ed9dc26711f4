use Rattle.std.proofs.Common.{◌≡◌, ◌∙◌, ℕ, suc, ◌+◌, ◌<◌, List, ◌++◌, length, get_or, map, take}
use Rattle.std.proofs.Common.{drop}
use Rattle.std.proofs.Common.{refl, sym, ap, subst, arith}
use Rattle.std.specs.Prelude.{slice_set}
use Rattle.vab_device.specs.declared.device.Part.{Part}
use Rattle.vab_edit.specs.Carried.{carried, planned_named, with_written}
use Rattle.vab_edit.proofs.CarryLaws.{at_here, at_any, set_next, all_set}
use Rattle.vab_edit.proofs.carry.give_all.Goals as goal

pub loop-i-init : goal.loop-i-init
loop-i-init c = record { plan = refl; left = λ k d low below. refl }

pub loop-i-preserved : goal.loop-i-preserved
loop-i-preserved c =
    let whole : List Part = c.args.plan.now.items in
    let i : ℕ = c.loop-i.i in
    let inv = c.loop-i.invariant in
    let f = carried c.args.olds.items in
    let x : Part = c.index_mut.result.now in
    let lt : i < length whole = omega (arith, c.len-i-end.ensures, c.loop-i-test.true) in
    let next : suc i ≡ i + 1 = omega arith in
    let here : x ≡ get_or whole i x =
    c.index_mut.ensures.value ∙ ap (λ (l : List Part). get_or l i x) inv.plan
    ∙ at_here f whole i x lt in
    let name_is : c.index.result.now.name ≡ x.name =
    ap (λ (p : Part). p.name) (c.index.ensures
    ∙ ap (λ (l : List Part). get_or l i c.index.result.now) inv.plan
    ∙ at_here f whole i c.index.result.now lt
    ∙ at_any whole i c.index.result.now x lt)
    ∙ ap (λ (p : Part). p.name) (sym here) in
    let left : planned_named x.name c.loop-i.left.items ≡ planned_named x.name c.args.olds.items =
    subst
    (λ (p : Part). planned_named p.name c.loop-i.left.items
    ≡ planned_named p.name c.args.olds.items)
    (sym here) (inv.left i x (omega arith) lt) in
    let given : c.give.new.planned ≡ f (get_or whole i x) =
    c.give.ensures
    ∙ ap (with_written x)
    (c.take-old.ensures.found
    ∙ ap (λ (n : List ℕ). planned_named n c.loop-i.left.items) name_is
    ∙ left)
    ∙ ap f here in
    record {
      plan =
          ap (λ (l : List Part). slice_set l i c.give.new.planned) inv.plan
          ∙ set_next f whole i x c.give.new.planned lt given
          ∙ ap (λ (n : ℕ). map f (take n whole) ++ drop n whole) next;
      left = λ k d low below.
          c.take-old.ensures.others (get_or whole k d).name
          (λ e. c.requires i k d (omega (arith, low)) below
          (ap (λ (p : Part). p.name) (at_any whole i d x lt ∙ sym here) ∙ sym name_is ∙ sym e))
          ∙ inv.left k d (omega (arith, low)) below;
    }

pub returns : goal.returns
returns c =
    c.loop-i.invariant.plan
    ∙ all_set (carried c.args.olds.items) c.args.plan.now.items c.loop-i.i
    (omega (arith, c.len-i-end.ensures, c.loop-i-test.false))
