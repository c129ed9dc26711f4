-- What commands write, one behind the other.
use Rattle.std.proofs.Common.{◌≡◌, ◌∙◌, ◌⊎◌, inl, inr, ⊎_elim, ℕ, ◌<◌, List, [], ◌∷◌, Ok, refl}
use Rattle.std.proofs.Common.{sym, ap, false}
use Rattle.std.proofs.Common.{Result, subst, arith}
use Rattle.std.specs.Prelude.{◌-◌, ◌*◌, ◌≤◌, Bool, true, Option, is_some, ◌==◌}
use Rattle.std.specs.Prelude.{if◌then◌else◌}
use Rattle.vab_disk.specs.declared.disk.Disk.{Ghosts}
use Rattle.std.proofs.lemmas.Bool.{cases_Bool}
use Rattle.vab_disk.specs.Disk.{Image}
use Rattle.vab_disk.specs.Calls.{Changes, Touches}
use Rattle.vab_disk.proofs.CallLaws.{changes_touches, changes_then, changes_wider}
use Rattle.vab_bootctl.specs.Boot.{activated_of, booted_of}
use Rattle.vab_bootctl.specs.Control.{control_of, KeepsRest}
use Rattle.vab_marks.specs.declared.mark.MarkPhase.TheVariants as marks
use Rattle.vab_merging.specs.GateWrites.{merging_mark}
use Rattle.vab_marks.specs.Mark.{rephased, begun, overlaid_by}
use Rattle.vab_geometry.specs.declared.geometry.Geometry.{Geometry}
use Rattle.vab_lpstore.specs.Layout.{primary_of, backup_of}
use Rattle.vab_layout.specs.Slots.{other_slot}
use Rattle.vab_install.specs.Control.{cleared_of, IsControl as IsClearing}
use Rattle.vab_model.specs.Commands.{Command, SetActive, Boot, Mark, Print, Digest, Begin, Create}
use Rattle.vab_model.specs.Commands.{Resize, Delete, Snapshot, Flash, Finish, Cancel, BeginMerge}
use Rattle.vab_model.specs.Commands.{Merge, Factory, UpdateSuper, Overlay, OverlayWrite}
use Rattle.vab_model.specs.Commands.{OverlayDiscard, Keep}
use Rattle.vab_device.specs.declared.device.Device.{Device}
use Rattle.vab_device.specs.declared.device.Part.{Part}
use Rattle.vab_device.specs.Does.{KeepsSource}
use Rattle.vab_model.specs.Kinds.{changes_source}
use Rattle.vab_device.specs.Kept.{IsDevice, copies_end, has_both, has_slot, parts_at}
use Rattle.vab_device.specs.Reading.{Represents, IsOfImages}
use Rattle.vab_device.specs.Updates.{EditOf, Guard}
use Rattle.vab_begin.specs.Writes.{IsOfBegun}
use Rattle.vab_edit.specs.Writes.{IsOfEdit}
use Rattle.vab_manager.specs.Controls.{IsControl}
use Rattle.vab_commands.specs.Controls.{Step, controls_by, IsOfControls}
use Rattle.vab_commands.specs.Writes.{IsOfCommand}
use Rattle.vab_commands.specs.Touched.{IsMarkOf, IsTextOf, IsOfUpdate}
use Rattle.vab_commands.specs.Touched.{IsOfCommands, ChangesDevice, IsOfUpdates, IsOfAll}
use Rattle.vab_commands.specs.Touched.{ChangesAll, ChangesBy, FollowsBy}
use Rattle.vab_commands.proofs.ControlsLaws.{chosen, rest_same, Reached, writes_behind}
use Rattle.vab_commands.proofs.ControlsLaws.{controls_wider}
use Rattle.vab_merging.proofs.BehindLaws.{turns_behind}
use Rattle.vab_merging.specs.Writes.{IsOfMerge}
use Rattle.vab_commands.proofs.FreeLaws.{image_is_free, store_is_free, head_behind}
use Rattle.vab_overlaying.specs.Writes.{IsOfOverlay}

-- ---- one command

-- an edit writes a text that fits
edit_writes : (d : Device) (guard : Guard) (edit : EditOf) (s : ℕ) (b : List ℕ)
    → IsOfEdit d guard edit s b
    → IsTextOf d.geometry (other_slot d.mark.slot) s b
edit_writes d guard edit s b w = record { text = _; fits = w.short; is = w.writes }

module _ {D : Type 0}
    (g : Ghosts D)
    (t : g.is_modelled)
    (d : Device)
    (old : D)
    (device : IsDevice d (g.size old))
    (is : Represents d (g.size old) (g.seen old))
    (s : ℕ)
    (b : List ℕ) where
  abbrev Writes : Type 0
  Writes = IsOfCommands d (g.seen old 4) s b

  of_text : IsTextOf d.geometry (other_slot d.mark.slot) s b → Writes
  of_text text = inr (inr (inr (inl text)))

  abbrev step : Command → Step
  step command =
      record { source = d.mark.slot; both = has_both d.mark.phase; command = command }

  -- what is said of which slots have images
  by_phase : (W : Bool → Bool → Type 0)
      → W (is_some d.a) (is_some d.b)
      → W (has_slot d.mark.phase d.mark.slot 0) (has_slot d.mark.phase d.mark.slot 1)
  by_phase W w =
      subst (λ (x : Bool). W x (has_slot d.mark.phase d.mark.slot 1)) device.has_a
      (subst (W (is_some d.a)) device.has_b w)

  -- nothing is said of the slot that isn't the mark's
  cleared_control : IsClearing g.is_modelled (cleared_of d.control (other_slot d.mark.slot))
      (g.seen old 4) s b
      → IsControl (cleared_of d.control (other_slot d.mark.slot)) (g.seen old 4) s b
  cleared_control is = record { at = is.at; control = is.control; rest = is.rest t }

  -- what the begin of an installation writes, whose target stands apart or not
  one_begun : (apart : Bool) → IsOfBegun g.is_modelled apart d (g.seen old 4) s b → Writes
  one_begun apart w = ⊎_elim
      (λ places.
      ⊎_elim {C = Writes}
      (λ clearing.
      ⊎_elim {C = Writes}
      (λ control.
      inl (record {
        steps = step Begin ∷ [];
        of = (refl, tt);
        writes = cleared_control control;
      }))
      (λ statuses. inr (inr (inl statuses)))
      clearing)
      (λ table.
      of_text (record { text = _; fits = w.short; is = table }))
      places)
      (λ mark.
      inr (inl (record { mark = begun apart d.mark; of = refl; is = mark })))
      w.writes

  -- what a command that doesn't change the source writes is of those that such commands write
  pub one_writes : (command : Command)
      → changes_source command ≡ false
      → IsOfCommand g.is_modelled d (g.seen old 4) command s b
      → Writes
  one_writes (SetActive slot) not w = inl (record {
    steps = step (SetActive slot) ∷ [];
    of = (refl, tt);
    writes = record {
      at = w.1.at;
      control =
          w.1.control
          ∙ ap Ok (sym (chosen
          (if slot == 0
          then has_slot d.mark.phase d.mark.slot 0
          else has_slot d.mark.phase d.mark.slot 1)
          (activated_of d.control slot) d.control
          (by_phase (λ a b. (if slot == 0 then a else b) ≡ true) w.0)));
      rest = w.1.rest;
    };
  })
  one_writes Boot not w = inl (record {
    steps = step Boot ∷ [];
    of = (refl, tt);
    writes =
        by_phase (λ x y. IsControl (booted_of d.control (x ∷ y ∷ [])) (g.seen old 4) s b) w;
  })
  one_writes Mark not w = inl (record { steps = step Mark ∷ []; of = (refl, tt); writes = w })
  one_writes (Print name) not w = absurd w
  one_writes (Digest name) not w = absurd w
  one_writes Begin not w = one_begun false w
  one_writes Factory not w = one_begun true w
  one_writes (Create name size) not w = of_text (edit_writes d _ _ s b w)
  one_writes (Resize name size) not w = of_text (edit_writes d _ _ s b w)
  one_writes (Delete name) not w = of_text (edit_writes d _ _ s b w)
  one_writes (Snapshot name size) not w = of_text (edit_writes d _ _ s b w)
  one_writes (Flash name chunk) not w = ⊎_elim
      (λ image.
      inr (inr (inr (inr
      (image_is_free d (g.size old) (g.seen old) name w.place s device is w.has image)))))
      (λ status. inr (inr (inl status.there)))
      w.writes
  one_writes (Keep name) not w = absurd w
  one_writes Finish not w = ⊎_elim
      (λ control.
      inl (record {
        steps = step Finish ∷ [];
        of = (refl, tt);
        writes = cleared_control control;
      }))
      (λ mark. inr (inl (record { mark = rephased marks.Staged d.mark; of = refl; is = mark })))
      w.writes
  one_writes Cancel not w =
      inr (inl (record { mark = rephased marks.Idle d.mark; of = refl; is = w.mark }))
  one_writes BeginMerge not w = absurd (let no : true ≡ false = not in cc)
  one_writes (Merge blocks) not w = absurd (let no : true ≡ false = not in cc)
  one_writes UpdateSuper not w = absurd (let no : true ≡ false = not in cc)
  one_writes (Overlay name size) not w = absurd (let no : true ≡ false = not in cc)
  one_writes (OverlayWrite block) not w =
      inr (inr (inr (inr (store_is_free d (g.size old) (g.seen old) s device is w))))
  one_writes OverlayDiscard not w =
      inr (inl (record { mark = overlaid_by false d.mark; of = refl; is = w.mark }))

-- what commands write that don't change the source is of what all of them write
update_all : (d : Device) (s : ℕ) (b : List ℕ) → IsOfUpdate d s b → IsOfUpdates d.geometry s b
update_all d s b (inl mark) = inl (record { slot = d.mark.slot; mark = mark })
update_all d s b (inr (inl statuses)) = inr (inl statuses)
update_all d s b (inr (inr (inl text))) = inr (inr (inl (record {
  slot = other_slot d.mark.slot;
  below = omega arith;
  text = text;
})))
update_all d s b (inr (inr (inr free))) = inr (inr (inr free.behind))

commands_all : (d : Device) (old : List ℕ) (s : ℕ) (b : List ℕ)
    → d.mark.slot < 2
    → IsOfCommands d old s b
    → IsOfAll d old s b
commands_all d old s b below (inl of) =
    inl (controls_wider (λ slot. slot ≡ d.mark.slot) (λ slot. slot < 2) d.control old s b
    (λ slot is. subst (λ (n : ℕ). n < 2) (sym is) below) of)
commands_all d old s b below (inr of) = inr (update_all d s b of)

-- what a merge writes
merge_writes : (d : Device) (size : ℕ) (image : Image) (blocks s : ℕ) (b : List ℕ)
    → IsDevice d size
    → Represents d size image
    → IsOfMerge d blocks s b
    → IsOfUpdates d.geometry s b
merge_writes d size image blocks s b device is w =
    ⊎_elim
    (λ turns.
    inr (inr (inr (turns_behind d size image blocks s device is w.merging turns))))
    (λ end. inl (record {
      slot = d.mark.slot;
      mark = record { mark = rephased marks.Completed d.mark; of = refl; is = end.1 };
    }))
    w.writes

-- what the begin of an overlay writes
overlay_writes : (d : Device) (size : ℕ) (name : List ℕ) (s : ℕ) (b : List ℕ)
    → IsDevice d size
    → IsOfOverlay d name s b
    → IsOfUpdates d.geometry s b
overlay_writes d size name s b device w =
    ⊎_elim
    (λ table.
    inr (inr (inl (record {
      slot = d.mark.slot;
      below = device.slot;
      text = record { text = _; fits = w.short; is = table };
    }))))
    (λ other.
    ⊎_elim {C = IsOfUpdates d.geometry s b}
    (λ head. inr (inr (inr (head_behind d size name s b device w head))))
    (λ mark. inl (record {
      slot = d.mark.slot;
      mark = record { mark = overlaid_by true d.mark; of = refl; is = mark };
    }))
    other)
    w.writes

-- what any command writes
any_writes : {D : Type 0} (g : Ghosts D) (d : Device) (old : D) (s : ℕ) (b : List ℕ)
    (command : Command)
    → g.is_modelled
    → IsDevice d (g.size old)
    → Represents d (g.size old) (g.seen old)
    → IsOfCommand g.is_modelled d (g.seen old 4) command s b
    → IsOfAll d (g.seen old 4) s b
any_writes g d old s b command t device is w =
    elim (cases_Bool (changes_source command)) [
      | inl source ↦ inr (of_source command source w)
      | inr not ↦
          commands_all d (g.seen old 4) s b device.slot
          (one_writes g t d old device is s b command not w)
    ]
  where
    of_source : (command : Command)
        → changes_source command ≡ true
        → IsOfCommand g.is_modelled d (g.seen old 4) command s b
        → IsOfUpdates d.geometry s b
    of_source BeginMerge source w = inl (record {
      slot = other_slot d.mark.slot;
      mark = record { mark = merging_mark d.mark; of = refl; is = w.mark };
    })
    of_source (Merge blocks) source w =
        merge_writes d (g.size old) (g.seen old) blocks s b device is w
    of_source UpdateSuper source w = inr (inr (inl (record {
      slot = d.mark.slot;
      below = device.slot;
      text = record { text = _; fits = w.1.short; is = w.1.writes };
    })))
    of_source (Overlay name size) source w =
        overlay_writes d (g.size old) name s b device w
    of_source _ source w = absurd cc

pub command_changes : {D : Type 0} (g : Ghosts D) (d : Device) (command : Command) (old new : D)
    → g.is_modelled
    → IsDevice d (g.size old)
    → Represents d (g.size old) (g.seen old)
    → changes_source command ≡ false
    → Touches g (IsOfCommand g.is_modelled d (g.seen old 4) command) old new
    → ChangesDevice g d old new
command_changes g d command old new t device is not touches =
    changes_wider g
    (IsOfCommands d (g.seen old 4))
    (IsOfCommand g.is_modelled d (g.seen old 4) command)
    old new
    (changes_touches g (IsOfCommand g.is_modelled d (g.seen old 4) command) old new touches)
    (λ s b w. one_writes g t d old device is s b command not w)

pub command_changes_all : {D : Type 0} (g : Ghosts D) (d : Device) (command : Command)
    (old new : D)
    → g.is_modelled
    → IsDevice d (g.size old)
    → Represents d (g.size old) (g.seen old)
    → Touches g (IsOfCommand g.is_modelled d (g.seen old 4) command) old new
    → ChangesAll g d old new
command_changes_all g d command old new t device is touches =
    changes_wider g
    (IsOfAll d (g.seen old 4))
    (IsOfCommand g.is_modelled d (g.seen old 4) command)
    old new
    (changes_touches g (IsOfCommand g.is_modelled d (g.seen old 4) command) old new touches)
    (λ s b w. any_writes g d old s b command t device is w)

-- ---- commands behind others

same_ok : {A E : Type 0} (x y : A) → (let one : Result A E = Ok x in one ≡ Ok y) → x ≡ y
same_ok x y is = cc

pub keeps_then : (a b c : Device) → KeepsSource a b → KeepsSource b c → KeepsSource a c
keeps_then a b c first second = record {
  geometry = second.geometry ∙ first.geometry;
  slot = second.slot ∙ first.slot;
  parts =
      sym (ap (parts_at c) first.slot)
      ∙ second.parts
      ∙ ap (parts_at b) first.slot
      ∙ first.parts;
}

-- a sector of the copies of a table is behind the geometries
text_behind : (g : Geometry) (slot s : ℕ) (b : List ℕ) → IsTextOf g slot s b → 4120 ≤ s
unfolding primary_of backup_of
text_behind g slot s b w = ⊎_elim
    (λ primary.
    ⊎_elim {C = 4120 ≤ s}
    (λ text. omega (arith, text.first))
    (λ zero. omega (arith, zero.0))
    primary)
    (λ backup.
    ⊎_elim {C = 4120 ≤ s}
    (λ text. omega (arith, text.first))
    (λ zero. omega (arith, zero.0))
    backup)
    w.is

-- what an update writes isn't boot control
not_control : (d : Device) (b : List ℕ) → IsOfUpdate d 4 b → ⊥
not_control d b w = ⊎_elim
    (λ mark. omega (arith, mark.is.0))
    (λ other.
    ⊎_elim {C = ⊥}
    (λ statuses. omega (arith, statuses.from))
    (λ other.
    ⊎_elim {C = ⊥}
    (λ text.
    let behind = text_behind d.geometry (other_slot d.mark.slot) 4 b text in omega (arith, behind))
    (λ free. omega (arith, free.behind))
    other)
    other)
    w

not_control_all : (g : Geometry) (b : List ℕ) → IsOfUpdates g 4 b → ⊥
not_control_all g b (inl mark) = let no = mark.mark.is.0 in omega (arith, no)
not_control_all g b (inr (inl statuses)) = omega (arith, statuses.from)
not_control_all g b (inr (inr (inl text))) =
    let behind = text_behind g text.slot 4 b text.text in omega (arith, behind)
not_control_all g b (inr (inr (inr free))) = omega (arith, free)

-- what was reached behind what commands have written
reached_of : {D : Type 0} (g : Ghosts D) (t : g.is_modelled) (size : ℕ) (d d' : Device)
    (old mid : D)
    (Of : ℕ → Type 0) (U : ℕ → List ℕ → Type 0)
    → ((b : List ℕ) → U 4 b → ⊥)
    → Represents d size (g.seen old)
    → Represents d' size (g.seen mid)
    → Changes g (λ s b. IsOfControls Of d.control (g.seen old 4) s b ⊎ U s b) old mid
    → Reached Of d.control (g.seen old 4) d'.control (g.seen mid 4)
reached_of g t size d d' old mid Of U not was is first =
    ⊎_elim
    (λ same. record {
      steps = [];
      of = tt;
      control = same_ok d'.control d.control (sym is.control ∙ ap control_of same ∙ was.control);
      rest = subst (KeepsRest (g.seen old 4)) (sym same) (rest_same (g.seen old 4));
    })
    (λ w.
    ⊎_elim
    (λ of. record {
      steps = of.steps;
      of = of.of;
      control =
          same_ok d'.control (controls_by of.steps d.control) (sym is.control ∙ of.writes.control);
      rest = of.writes.rest;
    })
    (λ of. absurd (not (g.seen mid 4) of))
    w)
    (first.seen t 4)

module _ {D : Type 0}
    (g : Ghosts D)
    (t : g.is_modelled)
    (size : ℕ)
    (d d' : Device)
    (old mid : D)
    (was : Represents d size (g.seen old))
    (is : Represents d' size (g.seen mid))
    (keeps : KeepsSource d d')
    (first : ChangesDevice g d old mid) where
  reached : Reached (λ slot. slot ≡ d.mark.slot) d.control (g.seen old 4) d'.control (g.seen mid 4)
  reached =
      reached_of g t size d d' old mid (λ slot. slot ≡ d.mark.slot) (IsOfUpdate d)
      (λ b w. not_control d b w) was is first

  update_behind : (s : ℕ) (b : List ℕ) → IsOfUpdate d' s b → IsOfUpdate d s b
  update_behind s b w = ⊎_elim
      (λ mark. inl (subst (λ (slot : ℕ). IsMarkOf slot s b) keeps.slot mark))
      (λ other.
      ⊎_elim {C = IsOfUpdate d s b}
      (λ statuses. inr (inl statuses))
      (λ other.
      ⊎_elim {C = IsOfUpdate d s b}
      (λ text.
      inr (inr (inl (subst
      (λ (x : Geometry × ℕ). IsTextOf x.0 (other_slot x.1) s b)
      (λ i. (keeps.geometry i, keeps.slot i)) text))))
      (λ free.
      inr (inr (inr (record {
        behind =
            subst (λ (g : Geometry). copies_end g ≤ 512 * (s - 4096)) keeps.geometry free.behind;
        not_source =
            subst (λ (x : Option (List Part)). IsOfImages x s → ⊥)
            (ap (parts_at d') keeps.slot ∙ keeps.parts) free.not_source;
      }))))
      other)
      other)
      w

  -- Commands behind others: the disk was this device, and then that one.
  pub commands_then : (new : D) → ChangesDevice g d' mid new → ChangesDevice g d old new
  commands_then new second =
      let W = IsOfCommands d (g.seen old 4) in
      changes_then g W old mid new first
      (changes_wider g W
      (IsOfCommands d' (g.seen mid 4))
      mid new second
      (λ s x w.
      ⊎_elim {C = W s x}
      (λ of.
      inl (writes_behind (λ slot. slot ≡ d.mark.slot) d.control d'.control (g.seen old 4)
      (g.seen mid 4) s x reached
      (subst (λ (k : ℕ). IsOfControls (λ slot. slot ≡ k) d'.control (g.seen mid 4) s x) keeps.slot
      of)))
      (λ of. inr (update_behind s x of))
      w))

-- the same where updates are merged as well
pub all_then : {D : Type 0} (g : Ghosts D) (t : g.is_modelled) (size : ℕ) (d d' : Device)
    (old mid new : D)
    → Represents d size (g.seen old)
    → Represents d' size (g.seen mid)
    → d'.geometry ≡ d.geometry
    → ChangesAll g d old mid
    → ChangesAll g d' mid new
    → ChangesAll g d old new
all_then g t size d d' old mid new was is geometry first second =
    let W = IsOfAll d (g.seen old 4) in
    let reached = reached_of g t size d d' old mid (λ slot. slot < 2) (IsOfUpdates d.geometry)
    (λ b w. not_control_all d.geometry b w) was is first in
    changes_then g W old mid new first
    (changes_wider g W (IsOfAll d' (g.seen mid 4)) mid new second
    (λ s x w.
    ⊎_elim {C = W s x}
    (λ of.
    inl (writes_behind (λ slot. slot < 2) d.control d'.control (g.seen old 4) (g.seen mid 4) s x
    reached of))
    (λ of. inr (subst (λ (k : Geometry). IsOfUpdates k s x) geometry of))
    w))

-- ---- both

-- what changes where nothing is merged, in each case
pub changes_by : {D : Type 0} (g : Ghosts D) (d : Device) (Plain : Type 0) (old new : D)
    → d.mark.slot < 2
    → ChangesDevice g d old new
    → ChangesBy g d Plain old new
changes_by g d Plain old new below changes = record {
  all =
      changes_wider g (IsOfAll d (g.seen old 4)) (IsOfCommands d (g.seen old 4)) old new changes
      (λ s b w. commands_all d (g.seen old 4) s b below w);
  plain = λ plain. changes;
}

-- what a command changes
pub command_changes_by : {D : Type 0} (g : Ghosts D) (d : Device) (command : Command) (old new : D)
    → g.is_modelled
    → IsDevice d (g.size old)
    → Represents d (g.size old) (g.seen old)
    → Touches g (IsOfCommand g.is_modelled d (g.seen old 4) command) old new
    → ChangesBy g d (changes_source command ≡ false) old new
command_changes_by g d command old new t device is touches = record {
  all = command_changes_all g d command old new t device is touches;
  plain = λ not. command_changes g d command old new t device is not touches;
}

-- where less is said
pub changes_under : {D : Type 0} (g : Ghosts D) (d : Device) (P Q : Type 0) (old new : D)
    → (Q → P)
    → ChangesBy g d P old new
    → ChangesBy g d Q old new
changes_under g d P Q old new less by = record {
  all = by.all;
  plain = λ q. by.plain (less q);
}

pub follows_under : (d : Device) (P Q : Type 0) (next : Device)
    → (Q → P)
    → FollowsBy d P next
    → FollowsBy d Q next
follows_under d P Q next less by = record {
  geometry = by.geometry;
  source = λ q. by.source (less q);
}

-- commands behind others
pub follows_then : (a b c : Device) (P Q : Type 0)
    → (P → Q)
    → FollowsBy a P b
    → FollowsBy b Q c
    → FollowsBy a P c
follows_then a b c P Q less first second = record {
  geometry = second.geometry ∙ first.geometry;
  source = λ p. keeps_then a b c (first.source p) (second.source (less p));
}

pub changes_by_then : {D : Type 0} (g : Ghosts D) (t : g.is_modelled) (size : ℕ) (d d' : Device)
    (P Q : Type 0) (old mid new : D)
    → Represents d size (g.seen old)
    → Represents d' size (g.seen mid)
    → (P → Q)
    → FollowsBy d P d'
    → ChangesBy g d P old mid
    → ChangesBy g d' Q mid new
    → ChangesBy g d P old new
changes_by_then g t size d d' P Q old mid new was is less follows first second = record {
  all =
      all_then g t size d d' old mid new was is follows.geometry first.all second.all;
  plain = λ p.
      commands_then g t size d d' old mid was is (follows.source p) (first.plain p) new
      (second.plain (less p));
}
