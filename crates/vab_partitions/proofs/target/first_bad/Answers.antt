use Rattle.std.proofs.Common.{◌≡◌, ◌+◌, true, false, refl, subst, sym, ◌∙◌}
use Rattle.vab_layout.specs.declared.layout.Part.{Part}
use Rattle.vab_partitions.specs.declared.target.Front.{Front}
use Rattle.vab_partitions.specs.Target.{KeepsAlone}
use Rattle.vab_partitions.proofs.FrontLaws.{Stands, stands_first, stands_skip, stands_take}
use Rattle.vab_partitions.proofs.FrontLaws.{stands_last, bad_first, own_few, apart_next}
use Rattle.vab_partitions.proofs.TargetLaws.{bad_not_together, target_together, together_target}
use Rattle.vab_partitions.proofs.BadTarget.{first_is_bad, target_not_bad}
use Rattle.vab_partitions.proofs.target.first_bad.Goals as goal
use Rattle.vab_partitions.proofs.target.first_bad.Goals.{else-is_of_target-via-then-is_of_target+in_ok-join+else-not-branch}
use Rattle.vab_partitions.proofs.target.first_bad.Goals.{else-is_of_target-via-else-is_of_target}

pub loop-part-init : goal.loop-part-init
loop-part-init c =
    stands_first c.args.most c.args.slot
    (KeepsAlone c.args.slot c.args.twins.now c.args.source.now c.args.target.now) c.args.target.now
    c.in_ok-front.front c.in_ok-front.ensures

pub join-requires-clause-few : goal.join-requires-clause-few
join-requires-clause-few c =
    own_few c.args.most c.args.slot (KeepsAlone c.args.slot c.args.twins.now c.args.source.now
    c.args.target.now)
    c.args.target.now c.loop-part.part-index c.loop-part.front c.loop-part.invariant

pub join-requires-clause-apart : goal.join-requires-clause-apart
join-requires-clause-apart c =
    apart_next c.args.most c.args.slot (KeepsAlone c.args.slot c.args.twins.now c.args.source.now
    c.args.target.now)
    c.args.target.now c.loop-part.part-index c.loop-part.front c.part-item.result
    c.loop-part.invariant c.loop-part-test.true c.part-item.is
    (sym c.is_of_target.ensures ∙ c.if-is_of_target.true)

-- what is refused may not stand behind what was seen
pub returns-then-not-branch-clause-first : goal.returns-then-not-branch-clause-first
returns-then-not-branch-clause-first c =
    bad_first c.args.most c.args.slot (KeepsAlone c.args.slot c.args.twins.now c.args.source.now
    c.args.target.now)
    c.args.target.now c.loop-part.part-index c.loop-part.front c.part-item.result
    c.loop-part.invariant c.loop-part-test.true c.part-item.is
    (sym c.is_of_target.ensures ∙ c.if-is_of_target.true)
    (λ j. absurd (let wrong : true ≡ false = sym (c.in_ok-join.ensures.joins.1 j)
    ∙ c.if-not-branch.true in cc))

pub returns-then-not-branch-clause-kept : goal.returns-then-not-branch-clause-kept
returns-then-not-branch-clause-kept c = (
  λ none. absurd (let wrong : true ≡ false = none in cc),
  λ is. absurd (bad_not_together c.args.most c.args.slot
      (KeepsAlone c.args.slot c.args.twins.now c.args.source.now c.args.target.now)
      c.args.target.now
      c.part-item.result.name (returns-then-not-branch-clause-first c)
      (target_together c.args.most c.args.slot c.args.twins.now c.args.source.now c.args.target.now
      is)),
)

pub returns-then-not-branch-clause-is : goal.returns-then-not-branch-clause-is
returns-then-not-branch-clause-is c =
    sym (first_is_bad c.args.most c.args.slot c.args.twins.now c.args.source.now c.args.target.now
    c.part-item.result.name (returns-then-not-branch-clause-first c))

pub loop-part-preserved : goal.loop-part-preserved
loop-part-preserved c =
    let most = c.args.most in
    let slot = c.args.slot in
    let target = c.args.target.now in
    let Keeps : Part → Type 0 = KeepsAlone slot c.args.twins.now c.args.source.now target in
    let i = c.loop-part.part-index in
    let front : Front = c.loop-part.front in
    let p : Part = c.part-item.result in
    let lt = c.loop-part-test.true in
    elim c.else-is_of_target.branch [
      | else-is_of_target-via-then-is_of_target+in_ok-join+else-not-branch w ↦
          let told = w.in_ok-join.ensures in
          let joined : w.in_ok-join.field-0 ≡ true = w.if-not-branch.false in
          subst (Stands most slot Keeps target (i + 1)) (sym w.front-is)
          (stands_take most slot Keeps target i front w.join.new.self p c.loop-part.invariant lt
          c.part-item.is (sym c.is_of_target.ensures ∙ w.if-is_of_target.true)
          (told.joins.0 joined) (told.joined joined))
      | else-is_of_target-via-else-is_of_target w ↦
          subst (Stands most slot Keeps target (i + 1)) (sym w.front-is)
          (stands_skip most slot Keeps target i front p c.loop-part.invariant lt c.part-item.is
          (sym c.is_of_target.ensures ∙ w.if-is_of_target.false))
    ]

-- the whole target keeps its rules
pub returns-clause-kept : goal.returns-clause-kept
returns-clause-kept c = (
  λ none. together_target c.args.most c.args.slot c.args.twins.now c.args.source.now
      c.args.target.now
      c.requires.most
      (stands_last c.args.most c.args.slot
      (KeepsAlone c.args.slot c.args.twins.now c.args.source.now c.args.target.now)
      c.args.target.now
      c.loop-part.part-index c.loop-part.front c.loop-part.invariant c.loop-part-test.false),
  λ is. refl,
)

pub returns-clause-is : goal.returns-clause-is
returns-clause-is c =
    sym (target_not_bad c.args.most c.args.slot c.args.twins.now c.args.source.now c.args.target.now
    ((returns-clause-kept c).0 refl))
