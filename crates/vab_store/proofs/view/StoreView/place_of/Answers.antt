use Rattle.std.proofs.Common.{◌≡◌, ◌≢◌, ◌<◌, ℕ, List, length, ap, sym, ◌∙◌, subst, arith}
use Rattle.std.proofs.lemmas.List.{get_or_read}
use Rattle.vab_exceptions.specs.declared.area.Exception.{Exception}
use Rattle.vab_store.specs.declared.index.Place.{Place}
use Rattle.vab_store.specs.Index.{place_at, IsRank}
use Rattle.vab_store.specs.Setting.{entry_place}
use Rattle.vab_store.proofs.SettingLaws.{LacksOld, rank_lacks, indexed_lacks_old, indexed_place}
use Rattle.vab_store.proofs.SettingLaws.{place_behind}
use Rattle.vab_store.proofs.view.StoreView.place_of.Goals.{else-rank-len-via-then-rank-len+else-index-old}
use Rattle.vab_store.proofs.view.StoreView.place_of.Goals.{else-rank-len-via-else-rank-len}
use Rattle.vab_store.proofs.view.StoreView.place_of.Goals as goal

pub returns-then-index-old : goal.returns-then-index-old
returns-then-index-old c =
    let es : List Exception = c.self.inside.items.items in
    let ps : List Place = c.self.inside.index.items in
    let i : ℕ = c.rank_of-rank.result in
    let none : Place = record { key = 0; at = 0 } in
    let below : i < length ps = omega (arith, c.if-rank-len.true, c.len.ensures) in
    let key : (place_at ps i).key ≡ c.args.old =
    ap (λ (p : Place). p.key) (sym (get_or_read ps i c.index.result.now below c.index.ensures none))
    ∙ c.if-index-old.true in
    ap (λ (p : Place). p.at)
    (get_or_read ps i c.index-then-index-old.result.now below c.index-then-index-old.ensures none)
    ∙ indexed_place es ps c.args.old i c.self.invariant below key
    ∙ ap (λ (l : List Exception). entry_place l c.args.old) c.self.view_is

pub returns-else-rank-len : goal.returns-else-rank-len
returns-else-rank-len c =
    let es : List Exception = c.self.inside.items.items in
    let ps : List Place = c.self.inside.index.items in
    let i : ℕ = c.rank_of-rank.result in
    let none : Place = record { key = 0; at = 0 } in
    let rank : IsRank ps c.args.old i =
    subst (λ (l : List Place). IsRank l c.args.old i) c.deref.ensures.value
    c.rank_of-rank.ensures in
    let other : i < length ps → (place_at ps i).key ≢ c.args.old =
    λ below. elim c.else-rank-len.branch [
      | else-rank-len-via-then-rank-len+else-index-old w ↦ λ same.
          w.if-index-old.false
          (ap (λ (p : Place). p.key)
          (get_or_read ps i w.index.result.now below w.index.ensures none)
          ∙ same)
      | else-rank-len-via-else-rank-len w ↦ λ same.
          omega (arith, w.if-rank-len.false, below, c.len.ensures)
    ] in
    let lacks : LacksOld es c.args.old =
    indexed_lacks_old es ps c.args.old c.self.invariant
    (rank_lacks ps c.args.old i c.self.invariant.ascends rank other) in
    omega (
      arith,
      c.len-else-rank-len.ensures,
      place_behind es c.args.old lacks,
      ap (λ (l : List Exception). entry_place l c.args.old) c.self.view_is,
    )
