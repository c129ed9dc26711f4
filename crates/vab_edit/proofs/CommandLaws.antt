-- What an edit does, by what it does to the disk.
use Rattle.std.proofs.Common.{◌≡◌, ◌∙◌, inl, inr, ⊎_elim, ℕ, ◌+◌, ◌≤◌, ◌<◌, true, false}
use Rattle.std.proofs.Common.{List, length, Ok, Err, refl, sym, ap, subst, arith}
use Rattle.std.specs.Prelude.{Option, Some, None, Result, map, AllPairs, ◌==◌}
use Rattle.std.proofs.lemmas.Bool.{cases_Bool}
use Rattle.vab_disk.specs.declared.disk.Disk.{Ghosts}
use Rattle.vab_disk.specs.Disk.{Image, Outcome, Adds, DiskFailed}
use Rattle.vab_disk.specs.Calls.{IsAtRest, Touches}
use Rattle.vab_disk.proofs.CallLaws.{reads_none, touches_wider}
use Rattle.vab_disk.proofs.Moments.{adds_wider}
use Rattle.vab_gate.specs.declared.gate.DiskFault.{DiskFault}
use Rattle.vab_geometry.specs.declared.geometry.Geometry.{Geometry}
use Rattle.vab_tables.specs.declared.table.Table.{Table}
use Rattle.vab_tables.specs.Spelling.{table_text}
use Rattle.vab_tables.specs.Text.{IsTableText}
use Rattle.vab_tables.specs.Reading.{table_of}
use Rattle.vab_lpstore.specs.Layout.{backup_of, copy_sectors, primary_bytes, backup_bytes}
use Rattle.vab_lpstore.specs.Layout.{text_sectors, BothHold}
use Rattle.vab_lpstore.specs.Loading.{slot_table}
use Rattle.vab_lpstore.specs.Storing.{IsOfTable, LeavesEitherTable, SameElsewhere}
use Rattle.vab_lpstore.proofs.StoreLaws.{text_fits, begins_read, both_table, store_elsewhere}
use Rattle.vab_layout.specs.declared.layout.Layout.{Layout}
use Rattle.vab_layout.specs.Layout.{layout_of, table_of as table_by}
use Rattle.vab_layout.specs.Slots.{other_slot, twins_by, IsTargetBeside}
use Rattle.vab_builder.specs.declared.edit.Edit.{Edit}
use Rattle.vab_builder.specs.declared.fault.EditFault.{EditFault}
use Rattle.vab_builder.specs.Edits.{edited_beside}
use Rattle.vab_model.specs.declared.command.Refusal.{Refusal}
use Rattle.vab_model.specs.declared.command.Reply.TheVariants as replies
use Rattle.vab_model.specs.declared.command.Refusal.TheVariants.{NoMemory}
use Rattle.vab_model.specs.declared.state.Plan.{Plan}
use Rattle.vab_model.specs.Effects.{Effect, refuses, does, steps_of, after_of, IsOneOf}
use Rattle.vab_model.specs.Effects.{wanting, unless_refused}
use Rattle.vab_device.specs.declared.device.Part.{Part}
use Rattle.vab_device.specs.declared.device.Device.{Device}
use Rattle.vab_device.specs.Does.{LeavesStep, effect_of, KeepsSource, Does}
use Rattle.vab_device.proofs.DoesLaws.{does_nothing, follows_kept, step_follows}
use Rattle.vab_device.specs.Kept.{lies_in, IsDevice, HasNoStores}
use Rattle.vab_device.specs.Mounted.{Mounted, mounted_on}
use Rattle.vab_device.specs.Phases.{plan_of}
use Rattle.vab_device.specs.Reading.{device, Represents}
use Rattle.vab_device.specs.Updates.{installing_with, table_effect, wants_for, effect_on}
use Rattle.vab_device.specs.Updates.{is_full_table}
use Rattle.vab_device.proofs.ReadingLaws.{device_same, device_stands}
use Rattle.vab_device.proofs.RepairLaws.{repair_same}
use Rattle.vab_edit.specs.Carried.{carried}
use Rattle.vab_edit.specs.Guards.{kept_from, kept_off}
use Rattle.vab_edit.specs.Writes.{command_by, edit_by, guard_by, plan_at, IsOfEdit}
use Rattle.vab_edit.specs.Prepared.{IsPrepared, Refuses, with_target, carried_over}
use Rattle.vab_edit.proofs.CopiesLaws.{ends_within}
use Rattle.vab_edit.proofs.DeviceLaws.{kept_update, new_lies, next_kept}
use Rattle.vab_edit.proofs.EffectLaws.{not_installing, effect_edited, effect_kept, kept_so}
use Rattle.vab_edit.proofs.EffectLaws.{gives_edited}
use Rattle.vab_edit.proofs.GateLaws.{other_below, carried_plan, mounted_edited, device_edited}
use Rattle.vab_edit.proofs.GateLaws.{represents_edited}
use Rattle.vab_edit.proofs.InstallingLaws.{read_at}
use Rattle.vab_edit.proofs.NextLaws.{device_at, target_kept}
use Rattle.vab_edit.proofs.PreparedLaws.{plan_differs}
use Rattle.vab_edit.proofs.StandsLaws.{StandsUpdate, stands_update, planned_at}

-- ---- what is asked of the calls

pub copies_within : (d : Device) (size slot : ℕ)
    → IsDevice d size
    → slot < 2
    → backup_of d.geometry slot + copy_sectors d.geometry ≤ size
copies_within d size slot kept below =
    let ends = ends_within d.geometry slot kept.geometry below in
    omega (arith, ends, kept.copies_on, kept.enough, kept.ends)

pub prepared_differs : (d : Device) (edit : Edit) (u : Table) (text : List ℕ) (plan : List Part)
    → IsPrepared d edit u text plan
    → AllPairs (λ (a b : Part). a.name ≡ b.name → ⊥) plan
prepared_differs d edit u text plan is =
    subst (λ (l : List Part). AllPairs (λ (a b : Part). a.name ≡ b.name → ⊥) l)
    (sym is.given.is_plan)
    (plan_differs (other_slot d.mark.slot) u is.given.is_edited.rules)

-- ---- want of memory

-- where an edit's effect wants memory
wants_is : (m : Mounted) (source : ℕ) (plan : Plan) (said : Result Layout EditFault)
    → (table_effect m source plan said).wants ≡ wants_for said
wants_is m source plan (Ok l) = refl
wants_is m source plan (Err fault) = refl

refused_to : (e : Effect Mounted) → e.wants ≡ true → unless_refused true e ≡ refuses NoMemory
refused_to e wants = rw wants refl

-- another table of the target
target_keeps : (d : Device) (target : ℕ) (u : Table) (plan : List Part)
    → KeepsSource d (with_target d target u plan)
target_keeps d target u plan = elim (cases_Bool (target == 0)) [
  | inl a ↦ rw a (record { geometry = refl; slot = refl; parts = refl })
  | inr b ↦ rw b (record { geometry = refl; slot = refl; parts = refl })
]

-- where something keeps an edit from the plan, it is refused
kept_back : (d : Device) (size : ℕ)
    → IsDevice d size
    → (image : Image) (staged : Option (List ℕ)) (edit : Edit) (r : Refusal)
    → kept_off d.mark.apart (other_slot d.mark.slot) d.plan edit ≡ Some r
    → effect_on (mounted_on d image) staged (command_by edit) ≡ refuses r
kept_back d size kept image staged edit r is = by_plan d.plan refl
  where
    by_plan : (x : Option (List Part))
        → d.plan ≡ x
        → effect_on (mounted_on d image) staged (command_by edit) ≡ refuses r
    by_plan None none =
        absurd (let bad : (let y : Option Refusal = None in y ≡ Some r) =
        ap
        (λ (x : Option (List Part)). kept_off d.mark.apart (other_slot d.mark.slot) x edit)
        (sym none)
        ∙ is in cc)
    by_plan (Some plan) planned = effect_kept d plan image staged edit r planned is

-- where both copies are of one table, the slot's table is that one or the new one
abbrev pub StoresTable : {D : Type 0}
    → Ghosts D
    → Geometry
    → (slot : ℕ)
    → D
    → D
    → List ℕ
    → Type 0
StoresTable g geometry slot old new text = g.is_modelled
    → IsAtRest g old
    → (t v : Table)
    → table_of geometry.max (primary_bytes geometry slot (g.seen old)) ≡ Ok t
    → table_of geometry.max (backup_bytes geometry slot (g.seen old)) ≡ Ok t
    → IsTableText geometry.max text v
    → Adds g.moment g.outcomes old new
    (LeavesEitherTable (g.told old) geometry slot (text_sectors (length text)) (g.seen old) t v)

module _ {D : Type 0} (g : Ghosts D) (d : Device) (edit : Edit) (staged : Option (List ℕ)) where
  -- what the edit may write
  abbrev Writes : ℕ → List ℕ → Type 0
  Writes = IsOfEdit d (guard_by edit) (edit_by edit)

  -- ---- a refusal

  pub refused_by : (r : Refusal) (old : D)
      → IsDevice d (g.size old)
      → (g.is_modelled → Represents d (g.size old) (g.seen old))
      → Refuses d edit r
      → Does g d staged (command_by edit) Writes old old (Ok (d, replies.Refused r))
  refused_by r old kept is (inl none) =
      does_nothing g d staged (command_by edit) Writes false (replies.Refused r) old old
      kept is
      (λ t. not_installing d (g.seen old) staged edit none.0 ∙ ap refuses (sym none.1))
      (reads_none g old) refl
  refused_by r old kept is (inr (inl back)) =
      does_nothing g d staged (command_by edit) Writes false (replies.Refused r) old old
      kept is
      (λ t. kept_back d (g.size old) kept (g.seen old) staged edit r back)
      (reads_none g old) refl
  refused_by r old kept is (inr (inr refused)) =
      let edited_is : (t : g.is_modelled)
      → effect_on (mounted_on d (g.seen old)) staged (command_by edit)
      ≡ table_effect (mounted_on d (g.seen old)) d.mark.slot
      (plan_at d.mark.apart (g.seen old) refused.tables.old_plan)
      (edited_beside (other_slot d.mark.slot) (twins_by d.mark.apart (layout_of refused.s).parts)
      (layout_of refused.s) (layout_of refused.t) d.geometry.max edit) = λ t.
      effect_edited d (g.size old) refused.s refused.t kept refused.tables (g.seen old) staged edit
      refused.free
      in
      ⊎_elim
      (λ wants.
      does_nothing g d staged (command_by edit) Writes true (replies.Refused r) old old
      kept is
      (λ t.
      refused_to
      (effect_on (mounted_on d (g.seen old)) staged (command_by edit))
      (ap (λ (e : Effect Mounted). e.wants) (edited_is t)
      ∙ wants_is (mounted_on d (g.seen old)) d.mark.slot _ _
      ∙ wants.1)
      ∙ ap refuses (sym wants.0))
      (reads_none g old) refl)
      (λ said.
      does_nothing g d staged (command_by edit) Writes false (replies.Refused r) old old
      kept is
      (λ t.
      edited_is t
      ∙ ap
      (table_effect (mounted_on d (g.seen old)) d.mark.slot
      (plan_at d.mark.apart (g.seen old) refused.tables.old_plan))
      said.1
      ∙ ap (λ (x : Refusal). wanting (is_full_table said.0) (refuses x)) (sym said.2))
      (reads_none g old) refl)
      refused.by

  -- ---- the copies are written

  module _
      (u : Table) (text : List ℕ) (plan : List Part)
      (p : IsPrepared d edit u text plan)
      (old new : D)
      (kept : IsDevice d (g.size old))
      (is : g.is_modelled → Represents d (g.size old) (g.seen old))
      (touches : Touches g (IsOfTable d.geometry (other_slot d.mark.slot) text) old new)
      (table : StoresTable g d.geometry (other_slot d.mark.slot) old new text) where
    fits : text_sectors (length text) ≤ copy_sectors d.geometry
    fits = text_fits d.geometry (length text) kept.geometry p.given.fits

    st : g.is_modelled → StandsUpdate d (g.size old) (g.seen old) p.s p.t
    st t = stands_update d (g.size old) (g.seen old) p.s p.t kept p.tables (is t)

    lies : lies_in d.tail.super_end d.geometry (layout_of u).device ≡ true
    lies = new_lies d (g.size old) edit p.s p.t u kept p.tables p.given.is_edited p.free

    was : IsTargetBeside (other_slot d.mark.slot) (twins_by d.mark.apart (layout_of p.s).parts)
        (layout_of p.s).parts (layout_of p.t).parts
    was = (kept_update d (g.size old) p.s p.t kept p.tables).target

    stores_were : HasNoStores d.mark.apart (layout_of p.t).parts
    stores_were = (kept_update d (g.size old) p.s p.t kept p.tables).no_stores

    -- nothing keeps the edit from what is read as the plan
    free : (t : g.is_modelled)
        → kept_from d.mark.apart (other_slot d.mark.slot)
        (plan_of (other_slot d.mark.slot) (layout_of p.t) (st t).scanned) edit
        ≡ None
    free t =
        ap
        (λ (x : Option (List Part)). kept_off d.mark.apart (other_slot d.mark.slot) x edit)
        (sym (p.tables.is_planned
        ∙ ap Some (planned_at d (g.size old) (g.seen old) p.s p.t p.tables.old_plan (st t)
        p.tables.is_planned)))
        ∙ p.free

    abbrev next : Mounted
    next =
        installing_with (mounted_on d (g.seen old)) d.mark.slot
        (plan_at d.mark.apart (g.seen old) p.tables.old_plan) (layout_of u)

    gives : effect_of g d staged (command_by edit) false old ≡ wanting true (does replies.Done next)
    gives =
        effect_edited d (g.size old) p.s p.t kept p.tables (g.seen old) staged edit p.free
        ∙ ap
        (table_effect (mounted_on d (g.seen old)) d.mark.slot
        (plan_at d.mark.apart (g.seen old) p.tables.old_plan))
        p.given.gives

    -- the text is that of the table whose extents are the maximal runs
    spelled : text ≡ table_text (table_by (layout_of u))
    spelled = p.given.text_is ∙ ap table_text p.given.is_edited.runs

    writes : (s : ℕ) (b : List ℕ)
        → IsOfTable d.geometry (other_slot d.mark.slot) text s b
        → Writes s b
    writes s b of_text = record {
      source = p.s;
      target = p.t;
      tables = p.tables;
      free = λ image.
          kept_so d p.tables.old_plan None edit image p.tables.is_planned p.free;
      layout = layout_of u;
      gives = gives_edited edit d.mark.apart d.geometry.max d.mark.slot p.s p.t ∙ p.given.gives;
      stands =
          subst (λ (x : List ℕ × Table). IsTableText d.geometry.max x.0 x.1)
          (λ i. (spelled i, p.given.is_edited.runs i))
          p.given.is_text;
      short = subst (λ (l : List ℕ). length l ≤ d.geometry.max) spelled p.given.fits;
      writes =
          subst (λ (l : List ℕ). IsOfTable d.geometry (other_slot d.mark.slot) l s b) spelled
          of_text;
    }

    -- an image with the new table
    module _
        (t : g.is_modelled) (image : Image)
        (others : SameElsewhere d.geometry (other_slot d.mark.slot) (text_sectors (length text))
        (g.seen old) image) where
      mounted : mounted_on
          (device_at d.mark d.mark.slot (st t).statuses (st t).seen d.tail d.geometry p.s u
          (st t).scanned d.control)
          image
          ≡ next
      mounted =
          mounted_edited (g.size old) d.mark d.mark.slot (text_sectors (length text))
          (st t).statuses
          (st t).seen
          d.tail d.geometry p.s p.t u (st t).scanned edit (g.seen old) image kept.geometry
          kept.slot fits (st t).reads was stores_were p.given.is_edited (free t) lies
          (st t).version others
          d.control
          ∙ (λ i. installing_with (mounted_on (sym (st t).is i) (g.seen old)) d.mark.slot
          (plan_at d.mark.apart (g.seen old)
          (sym (planned_at d (g.size old) (g.seen old) p.s p.t p.tables.old_plan
          (st t) p.tables.is_planned) i))
          (layout_of u))

      means : slot_table d.geometry (other_slot d.mark.slot) image ≡ Ok u
          → device (g.size old) image ≡ Ok next
      means there =
          device_edited (g.size old) d.mark d.mark.slot (text_sectors (length text)) (st t).statuses
          (st t).seen
          d.tail d.geometry p.s p.t u (st t).scanned edit (g.seen old) image kept.geometry
          kept.slot fits (st t).reads was stores_were p.given.is_edited (free t) lies
          (st t).version others
          d.control (st t).control
          there
          ∙ ap Ok mounted

      represents_at : BothHold d.geometry (other_slot d.mark.slot) text image
          → Represents
          (device_at d.mark d.mark.slot (st t).statuses (st t).seen d.tail d.geometry p.s u
          (st t).scanned d.control)
          (g.size old) image
      represents_at held =
          represents_edited (g.size old) d.mark d.mark.slot (text_sectors (length text))
          (st t).statuses
          (st t).seen
          d.tail d.geometry p.s p.t u (st t).scanned edit (g.seen old) image kept.geometry
          kept.slot fits (st t).reads was stores_were p.given.is_edited (free t) lies
          (st t).version others
          d.control text
          (st t).control (st t).copies p.given.is_text held

      plan_is : carried_over d.plan plan
          ≡ plan_of (other_slot d.mark.slot) (layout_of u) (st t).scanned
      plan_is =
          ap (λ (x : Option (List Part)). carried_over x plan)
          (p.tables.is_planned
          ∙ ap Some (planned_at d (g.size old) (g.seen old) p.s p.t p.tables.old_plan
          (st t) p.tables.is_planned))
          ∙ ap
          (map (carried (plan_of (other_slot d.mark.slot) (layout_of p.t) (st t).scanned)))
          p.given.is_plan
          ∙ carried_plan (g.size old) d.mark d.mark.slot (text_sectors (length text))
          (st t).statuses
          (st t).seen
          d.tail d.geometry p.s p.t u (st t).scanned edit (g.seen old) image kept.geometry
          kept.slot fits (st t).reads was stores_were p.given.is_edited (free t) lies
          (st t).version others

      device_is : with_target d (other_slot d.mark.slot) u (carried_over d.plan plan)
          ≡ device_at d.mark d.mark.slot (st t).statuses (st t).seen d.tail d.geometry p.s u
          (st t).scanned d.control
      device_is =
          ap
          (λ (x : Device). with_target x (other_slot d.mark.slot) u (carried_over d.plan plan))
          (st t).is
          ∙ target_kept d.mark d.mark.slot (st t).statuses (st t).seen d.tail d.geometry p.s p.t u
          (st t).scanned
          d.control (carried_over d.plan plan) kept.slot plan_is

    -- an outcome is the device before or after
    old_table : (t : g.is_modelled)
        → slot_table d.geometry (other_slot d.mark.slot) (g.seen old) ≡ Ok p.t
    old_table t =
        let copy = (st t).copies.1.0 in
        both_table d.geometry (other_slot d.mark.slot) copy.0 p.t (g.seen old) copy.2 copy.1

    leaves : (t : g.is_modelled) (o : Outcome)
        → LeavesEitherTable (g.told old) d.geometry (other_slot d.mark.slot) (text_sectors
        (length text))
        (g.seen old) p.t u o
        → LeavesStep (g.told old) (g.size old)
        (steps_of (mounted_on d (g.seen old)) (effect_of g d staged (command_by edit) false old)) o
    leaves t o left = ⊎_elim
        (λ same. record {
          told_so_far = left.told_so_far;
          mounted = mounted_on d (g.seen old);
          step = inl refl;
          means =
              device_same (g.size old)
              (read_at d.mark d.mark.slot (st t).statuses (st t).seen d.tail d.geometry p.s p.t
              (st t).scanned)
              (g.seen old) o.image (st t).reads
              (repair_same (g.size old) (text_sectors (length text)) (other_slot d.mark.slot)
              (read_at d.mark d.mark.slot (st t).statuses (st t).seen d.tail d.geometry p.s p.t
              (st t).scanned)
              (g.seen old) o.image kept.geometry kept.slot (other_below d.mark.slot) fits
              (st t).reads
              left.others (same ∙ sym (old_table t)))
              ∙ device_stands d (g.size old) (g.seen old) (is t);
        })
        (λ there. record {
          told_so_far = left.told_so_far;
          mounted = next;
          step =
              subst
              (λ (e : Effect Mounted). IsOneOf (steps_of (mounted_on d (g.seen old)) e) next)
              (sym gives) (inr (inl refl));
          means = means t o.image left.others there;
        })
        left.table

    steps : g.is_modelled
        → IsAtRest g old
        → Adds g.moment g.outcomes old new
        (LeavesStep (g.told old) (g.size old)
        (steps_of (mounted_on d (g.seen old)) (effect_of g d staged (command_by edit) false old)))
    steps t rest =
        let copy = (st t).copies.1.0 in
        adds_wider g.moment g.outcomes old new _ _
        (table t rest p.t u
        (begins_read d.geometry.max (primary_bytes d.geometry (other_slot d.mark.slot) (g.seen old))
        copy.0 p.t copy.1 copy.2.primary)
        (begins_read d.geometry.max (backup_bytes d.geometry (other_slot d.mark.slot) (g.seen old))
        copy.0 p.t copy.1 copy.2.backup)
        p.given.is_text)
        (leaves t)

    -- the disk failed
    pub fails_edit : (fault : DiskFault)
        → DiskFailed (g.faults old) (g.faults new)
        → Does g d staged (command_by edit) Writes old new (Err fault)
    fails_edit fault rose = record {
      refused = false;
      kept = tt;
      follows = tt;
      represents = λ t. tt;
      after = λ t. tt;
      reply = λ t. tt;
      rest = λ t rest. tt;
      quiet = touches.quiet;
      still = λ t none. absurd (step_follows gives none);
      touches = λ t.
          touches_wider g Writes (IsOfTable d.geometry (other_slot d.mark.slot) text) old new
          touches writes;
      time = steps;
      faults = record { steady = tt; cause = rose };
    }

    elsewhere : (t : g.is_modelled)
        → SameElsewhere d.geometry (other_slot d.mark.slot) (text_sectors (length text))
        (g.seen old) (g.seen new)
    elsewhere t =
        store_elsewhere d.geometry (other_slot d.mark.slot) text (g.seen old) (g.seen new)
        (touches.seen t)

    pub does_edit : (g.is_modelled → BothHold d.geometry (other_slot d.mark.slot) text (g.seen new))
        → (g.is_modelled → IsAtRest g new)
        → g.faults new ≡ g.faults old
        → Does g d staged (command_by edit) Writes old new
        (Ok (with_target d (other_slot d.mark.slot) u (carried_over d.plan plan), replies.Done))
    does_edit held settled counts = record {
      refused = false;
      kept =
          next_kept d (g.size old) edit p.s p.t u kept p.tables p.given.is_edited p.free
          (carried_over d.plan plan)
          (ap (λ (x : Option (List Part)). carried_over x plan) p.tables.is_planned
          ∙ ap (map (carried p.tables.old_plan)) p.given.is_plan);
      follows =
          follows_kept d (command_by edit)
          (with_target d (other_slot d.mark.slot) u (carried_over d.plan plan))
          (target_keeps d (other_slot d.mark.slot) u (carried_over d.plan plan));
      represents = λ t.
          subst (λ (x : Device). Represents x (g.size old) (g.seen new))
          (sym (device_is t (g.seen new) (elsewhere t)))
          (represents_at t (g.seen new) (elsewhere t) (held t));
      after = λ t.
          ap (λ (x : Device). mounted_on x (g.seen new)) (device_is t (g.seen new) (elsewhere t))
          ∙ mounted t (g.seen new) (elsewhere t)
          ∙ ap (λ (e : Effect Mounted). after_of (mounted_on d (g.seen old)) e) (sym gives);
      reply = λ t. ap (λ (e : Effect Mounted). e.reply) (sym gives);
      rest = λ t rest. settled t;
      quiet = touches.quiet;
      still = λ t none. absurd (step_follows gives none);
      touches = λ t.
          touches_wider g Writes (IsOfTable d.geometry (other_slot d.mark.slot) text) old new
          touches writes;
      time = steps;
      faults = record { steady = counts; cause = tt };
    }
