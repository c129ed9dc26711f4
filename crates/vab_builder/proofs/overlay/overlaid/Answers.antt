use Rattle.std.proofs.Common.{◌≡◌, ℕ, List, [], ◌∷◌, ◌++◌, sym, ap, subst, ◌∙◌}
use Rattle.vab_tables.specs.declared.entries.Group.{Group}
use Rattle.vab_layout.specs.declared.layout.Part.{Part}
use Rattle.vab_layout.specs.declared.layout.Layout.{Layout}
use Rattle.vab_layout.specs.Rules.{IsLayout}
use Rattle.vab_layout.specs.Plain.{plain}
use Rattle.vab_builder.specs.Import.{stores_group}
use Rattle.vab_builder.specs.Overlay.{overlay_part, with_overlay}
use Rattle.vab_builder.proofs.OverlayTable.{overlay_room, own_name, overlay_is_layout}
use Rattle.vab_builder.proofs.overlay.overlaid.Goals as goal

pub overlay_part-requires-clause-short : goal.overlay_part-requires-clause-short
overlay_part-requires-clause-short c =
    let a = c.args in
    (own_name a.slot a.layout.now a.name.now c.requires.own c.requires.named).1

pub overlay_part-requires-clause-room : goal.overlay_part-requires-clause-room
overlay_part-requires-clause-room c =
    overlay_room c.args.slot c.args.layout.now c.args.count c.requires.room

made : (slot : ℕ) (l p : Layout) (name : List ℕ) (n : ℕ) (parts : List Part) (groups : List Group)
    → p ≡ plain slot l
    → parts ≡ p.parts ++ overlay_part slot l name n ∷ []
    → groups ≡ p.groups ++ stores_group ∷ []
    → record { parts = parts; groups = groups; device = p.device; flags = p.flags }
    ≡ with_overlay slot l name n
unfolding plain with_overlay
made slot l p name n parts groups is parts-are groups-are =
    let s : Part = overlay_part slot l name n in
    let make : List Part → List Group → Layout
    → Layout =
    λ ps gs q. record { parts = ps; groups = gs; device = q.device; flags = q.flags } in
    ap (λ (ps : List Part). make ps groups p) parts-are
    ∙ ap (λ (gs : List Group). make (p.parts ++ s ∷ []) gs p) groups-are
    ∙ ap (λ (q : Layout). make (q.parts ++ s ∷ []) (q.groups ++ stores_group ∷ []) q) is

pub returns-clause-value : goal.returns-clause-value
returns-clause-value c =
    let a = c.args in
    let s : Part = overlay_part a.slot a.layout.now a.name.now a.count in
    let pushed = c.in_ok-push.ensures.items in
    let pushed-group = c.in_ok-push-2.ensures.items in
    let parts : c.from_vec.result ≡ c.in_ok-parts.field-0.parts ++ s ∷ [] =
    cc (c.from_vec.ensures, pushed, c.into_vec-parts.ensures, c.in_ok-store.ensures) in
    let groups : c.from_vec-2.result ≡ c.in_ok-parts.field-0.groups ++ stores_group ∷ [] =
    cc (
      c.from_vec-2.ensures,
      pushed-group,
      c.into_vec-groups.ensures,
      c.unlimited.ensures,
      c.store_group.ensures,
    ) in
    made a.slot a.layout.now c.in_ok-parts.field-0 a.name.now a.count c.from_vec.result
    c.from_vec-2.result c.in_ok-parts.ensures.value parts groups

pub returns-clause-rules : goal.returns-clause-rules
returns-clause-rules c =
    let a = c.args in
    subst IsLayout (sym (returns-clause-value c))
    (overlay_is_layout a.slot a.layout.now a.name.now a.count c.requires.rules c.requires.own
    c.requires.named)
