use Rattle.std.proofs.Common.{◌≡◌, true, false, sym, ◌∙◌, rules}
use Rattle.std.proofs.lemmas.Bool.{false_from_ne_true}
use Rattle.vab_names.specs.Names.{is_full}
use Rattle.vab_layout.specs.Layout.{layout_of}
use Rattle.vab_builder.specs.Edits.{with_deleted}
use Rattle.vab_builder.specs.Sizes.{has_part}
use Rattle.vab_builder.proofs.DeleteVerdicts.{deleted-bad_name, deleted-unknown, deleted-has_store}
use Rattle.vab_builder.proofs.DeleteVerdicts.{deleted-ok}
use Rattle.vab_names.proofs.NameCases.{full_few}
use Rattle.vab_builder.proofs.delete.delete_fault.Goals as goal

pub returns-in_default : goal.returns-in_default
returns-in_default c =
    let a = c.args in
    let full : is_full a.slot a.name.now ≡ false =
    false_from_ne_true (is_full a.slot a.name.now) (search rules) in
    deleted-bad_name a.slot (layout_of a.target.now) a.name.now full

pub returns-then-not-has_part : goal.returns-then-not-has_part
returns-then-not-has_part c =
    let a = c.args in
    let full : is_full a.slot a.name.now ≡ true = search rules in
    let absent : has_part a.name.now (layout_of a.target.now).parts ≡ false = search rules in
    deleted-unknown a.slot (layout_of a.target.now) a.name.now full absent

pub has_store-requires : goal.has_store-requires
has_store-requires c =
    let a = c.args in
    let full : is_full a.slot a.name.now ≡ true = search rules in
    rw c.in-Some.ensures.value (full_few a.slot a.name.now full)

pub returns-then-has_store : goal.returns-then-has_store
returns-then-has_store c =
    let a = c.args in
    let full : is_full a.slot a.name.now ≡ true = search rules in
    let there : has_part a.name.now (layout_of a.target.now).parts ≡ true = search rules in
    let store = rw c.in-Some.ensures.value at (sym c.has_store.ensures ∙ c.if-has_store.true) in
    deleted-has_store a.slot (layout_of a.target.now) a.name.now full there store

pub returns : goal.returns
returns c =
    let a = c.args in
    let full : is_full a.slot a.name.now ≡ true = search rules in
    let there : has_part a.name.now (layout_of a.target.now).parts ≡ true = search rules in
    let plain = rw c.in-Some.ensures.value at (sym c.has_store.ensures ∙ c.if-has_store.false) in (
      with_deleted (layout_of a.target.now) a.name.now,
      deleted-ok a.slot (layout_of a.target.now) a.name.now
          (record { full = full; known = there; plain = plain }),
    )
