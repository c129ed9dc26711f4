-- A session as a run of the program.
use Rattle.std.proofs.Common.{◌≡◌, ◌⊎◌, ◌∙◌, inl, inr, ⊎_elim, ◌^◌, ◌<◌, ◌≤◌, ℕ, List, [], ◌++◌}
use Rattle.std.proofs.Common.{take}
use Rattle.std.proofs.Common.{codes, Some, None, Ok, Err, refl, sym, ap, subst, arith}
use Rattle.std.specs.Prelude.{Option, Bool}
use Rattle.std.proofs.lemmas.Bool.Decides.{nat_tests}
use Rattle.std.proofs.lemmas.List.{append-nil}
use Rattle.vab_disk.specs.declared.disk.Disk.{Ghosts}
use Rattle.vab_disk.specs.Disk.{Outcome, Leaves, Adds, Hearing}
use Rattle.vab_disk.specs.Calls.{IsAtRest}
use Rattle.vab_disk.proofs.Moments.{adds_wider, adds_on, all_since}
use Rattle.vab_device.specs.declared.device.Device.{Device}
use Rattle.vab_device.specs.Mounted.{Mounted, mounted_on}
use Rattle.vab_device.specs.Reading.{device, IsIn, Represents}
use Rattle.vab_recover.specs.Opening.{LeavesSame}
use Rattle.vab_set.specs.declared.set.SetImage.{SetImage}
use Rattle.vab_layout.specs.Layout.{table_of}
use Rattle.vab_make.specs.declared.fault.MakeFault.{MakeFault}
use Rattle.vab_make.specs.declared.fault.MakeFault.TheVariants as make
use Rattle.vab_make.specs.Made.{made_layout, refusal_of, made_device_of}
use Rattle.vab_make.specs.Making.{Gives, IsOfDisk, IsMade, LeavesMaking}
use Rattle.vab_exchanges.specs.Session.{Exchange, End, IsSession, waits_in}
use Rattle.vab_exchanges.specs.Hearing.{HearsWhere}
use Rattle.vab_exchanges.specs.Items.{items_of, kept_after, closing_of, final_of, output_of}
use Rattle.vab_exchanges.specs.Runs.{CrashesWithin, IsTold, Serves}
use Rattle.vab_exchanges.proofs.RunLaws.{items_chain, within_greeting}
use Rattle.vab_session.proofs.SourceLaws.{kept_at_cut}
use Rattle.vab_session.proofs.StandLaws.{stands_at_cut}
use Rattle.vab_session.specs.Responses.{machine}
use Rattle.vab_session.specs.Served.{Answer, Says, Held as HeldBySession, reached}
use Rattle.vab_session.specs.Served.{ServesDevice, nothing_staged}
use Rattle.vab_session.specs.declared.fault.Ended.TheVariants as ended
use Rattle.vab_session.specs.declared.fault.SessionFault.TheVariants.{BadHello, TooLong, Overrun}
use Rattle.vab_session.specs.declared.fault.SessionFault.TheVariants.{Cut}
use Rattle.vab_session.specs.declared.fault.SessionFault.TheVariants.{Spent, Source, Sink}
use Rattle.vab_session.specs.declared.fault.SessionFault.TheVariants as faults
use Rattle.vab_cli.specs.declared.status.Status.{Status}
use Rattle.vab_cli.specs.declared.status.Status.TheVariants.{Done, Usage, Malformed, Refused}
use Rattle.vab_cli.specs.declared.status.Status.TheVariants.{NotADevice, Disk, Port, NoMemory}
use Rattle.vab_cli.specs.Codes.{session_status, make_status}
use Rattle.vab_cli.specs.Opening.{Opens}
use Rattle.vab_cli.specs.Program.{AnswersAll}
use Rattle.vab_cli.specs.Runs.{SaysEnd, StaysAsIs, Held, IsEarly, RunsItems, RunsSession}
use Rattle.vab_cli.specs.Runs.{FailsMaking}
use Rattle.vab_cli.proofs.Items.{mounted_is}
use Rattle.vab_cli.proofs.Running.{settled_image}

-- ---- how it ends

says : (r : Answer) (end : End) → Says r end → SaysEnd (session_status r) end
says (Ok (ended.Closed, d)) end is = subst (SaysEnd Done) is tt
says (Ok (ended.Rebooted slot, d)) end is = subst (SaysEnd Done) is tt
says (Err BadHello) end is = subst (SaysEnd Malformed) is tt
says (Err (TooLong n)) end is = subst (SaysEnd Malformed) is tt
says (Err (Overrun due came)) end is = subst (SaysEnd Malformed) is tt
says (Err (Cut at)) end is = subst (SaysEnd Malformed) is tt
says (Err Spent) end is = subst (SaysEnd Malformed) is tt
says (Err Source) end is = tt
says (Err Sink) end is = tt
says (Err faults.Disk) end is = tt

pub port_held : (r : Answer) → Held (session_status r) → HeldBySession r
port_held (Ok r) held = tt
port_held (Err BadHello) held = tt
port_held (Err (TooLong n)) held = tt
port_held (Err (Overrun due came)) held = tt
port_held (Err (Cut at)) held = tt
port_held (Err Spent) held = tt
port_held (Err Source) held = held
port_held (Err Sink) held = held
port_held (Err faults.Disk) held = held

-- ---- why a device isn't made

-- a fresh device is refused where there are too few sectors, and else not
pub fresh_enough : (size : ℕ) → 6152 ≤ size → refusal_of [] 0 65536 size ≡ None
unfolding refusal_of made_layout table_of
fresh_enough size enough = grind (arith, nat_tests)

pub fresh_small : (size : ℕ)
    → size < 6152
    → refusal_of [] 0 65536 size ≡ Some (make.TooSmall 6152 size)
unfolding refusal_of
fresh_small size small = grind (arith, nat_tests)

-- where nothing refuses it, the disk failed or memory was refused
pub made_early : (f : MakeFault) → Gives {A = Unit {0}} (Err f) None → IsEarly (make_status f)
made_early (make.TooSmall need have) gives = cc
made_early (make.GroupLimit used limit) gives = cc
made_early (make.NoRoom used blocks) gives = cc
made_early (make.TableFull size max) gives = cc
made_early make.NoMemory gives = inr refl
made_early (make.Disk fault) gives = inl refl

-- where it is too small, that is said, or memory was refused
pub made_small : (f : MakeFault) (need have : ℕ)
    → Gives {A = Unit {0}} (Err f) (Some (make.TooSmall need have))
    → (make_status f ≡ NotADevice) ⊎ (make_status f ≡ NoMemory)
made_small (make.TooSmall need' have') need have gives = inl refl
made_small (make.GroupLimit used limit) need have gives = cc
made_small (make.NoRoom used blocks) need have gives = cc
made_small (make.TableFull size max) need have gives = cc
made_small make.NoMemory need have gives = inr refl
made_small (make.Disk fault) need have gives = cc

pub small_unwritten : (f : MakeFault) (need have : ℕ)
    → Gives {A = Unit {0}} (Err f) (Some (make.TooSmall need have))
    → IsOfDisk f
    → ⊥
small_unwritten (make.TooSmall need' have') need have gives disk = disk
small_unwritten (make.GroupLimit used limit) need have gives disk = disk
small_unwritten (make.NoRoom used blocks) need have gives disk = disk
small_unwritten (make.TableFull size max) need have gives disk = disk
small_unwritten make.NoMemory need have gives disk = disk
small_unwritten (make.Disk fault) need have gives disk = cc

-- ---- runs

module _ {D : Type 0}
    (g : Ghosts D)
    (only_now : (d : D) (o : Outcome)
    → g.outcomes d (g.moment d) o
    → Leaves (g.told d) (g.may_leave d) o)
    (size turns : ℕ) where
  -- a cut of power within a session
  abbrev Within : Mounted
      → List Exchange
      → Option (List ℕ)
      → (waits : Bool)
      → List ℕ
      → Outcome
      → Type 0
  Within first exchanges unfinished waits told =
      CrashesWithin (IsIn size) (codes "FB01") first
      (items_of (machine turns) (nothing_staged first) exchanges unfinished)
      (closing_of (machine turns) unfinished waits
      (kept_after (machine turns) (nothing_staged first) exchanges)) told

  -- before anything of it is told
  before_all : (first : Mounted) (exchanges : List Exchange) (unfinished : Option (List ℕ))
      (waits : Bool) (told : List ℕ) (o : Outcome)
      → o.told ≡ told
      → IsIn size first o.image
      → Within first exchanges unfinished waits told o
  before_all first exchanges unfinished waits told o same is =
      let closing : List Mounted =
      closing_of (machine turns) unfinished waits
      (kept_after (machine turns) (nothing_staged first) exchanges) in
      within_greeting (IsIn size) (codes "FB01") closing first
      (items_of (machine turns) (nothing_staged first) exchanges unfinished) told o 0
      (items_chain (machine turns) closing (nothing_staged first) exchanges unfinished)
      (omega arith)
      (same ∙ sym (append-nil told)) is

  -- what a session promises behind what was only opened
  record Behind
      (Else : Outcome → Type 0)
      (first : Mounted)
      (old mid new : D) : Type 0 where
    told : g.told mid ≡ g.told old
    left : g.input_left mid ≡ g.input_left old
    heard : g.heard mid ≡ g.heard old
    stands : IsIn size first (g.seen mid)
    settled : IsAtRest g old → IsAtRest g mid
    cuts : IsAtRest g old
        → (exchanges : List Exchange)
        → (unfinished : Option (List ℕ))
        → (waits : Bool)
        → Adds g.moment g.outcomes mid new (Within first exchanges unfinished waits (g.told mid))
        → (o : Outcome)
        → g.outcomes new (g.moment old) o
        → Within first exchanges unfinished waits (g.told old) o ⊎ Else o

  runs_behind : (Else : Outcome → Type 0) (d : Device) (first : Mounted) (old mid new : D)
      (r : Answer)
      → Behind Else first old mid new
      → Represents d size (g.seen mid)
      → ServesDevice size g d (2 ^ 44) turns mid new r
      → RunsSession g size Else turns first old new (session_status r)
  runs_behind Else d first old mid new r behind represents serves' =
      record {
        refused = serves.refused;
        exchanges = serves.exchanges;
        unfinished = serves.unfinished;
        end = serves.end;
        session =
            subst
            (λ (l : List ℕ).
            IsSession (2 ^ 44) serves.refused l serves.exchanges serves.unfinished serves.end)
            behind.left serves.session;
        only = λ others v other is.
            serves.only others v other
            (subst (λ (l : List ℕ). IsSession (2 ^ 44) serves.refused l others v other)
            (sym behind.left) is);
        status_is = says r serves.end serves.ends;
        items = items;
        heard =
            subst
            (λ (h : List Hearing).
            HearsWhere
            (IsTold (machine turns) (nothing_staged first) serves.exchanges (g.input_left old)
            (g.told old))
            h (g.heard new))
            behind.heard
            (subst
            (λ (l : List ℕ).
            HearsWhere
            (IsTold (machine turns) (nothing_staged first) serves.exchanges (g.input_left old) l)
            (g.heard mid) (g.heard new))
            behind.told
            (subst
            (λ (l : List ℕ).
            HearsWhere
            (IsTold (machine turns) (nothing_staged first) serves.exchanges l (g.told mid))
            (g.heard mid) (g.heard new))
            behind.left serves.heard));
        alone = λ rest done later is slot images alone o at since told_is whole.
            ⊎_elim
            (λ within.
            inl (stands_at_cut slot images turns size (nothing_staged first) serves.exchanges done
            later
            serves.unfinished waits (g.told old) o within is alone since told_is whole))
            (λ before. inr before)
            (every_cut rest o at);
        kept = λ rest done later is slot images kept o at since told_is whole.
            ⊎_elim
            (λ within.
            inl (kept_at_cut slot images turns size (nothing_staged first) serves.exchanges done
            later
            serves.unfinished waits (g.told old) o within is kept since told_is whole))
            (λ before. inr before)
            (every_cut rest o at);
      }
    where
      same : mounted_on d (g.seen mid) ≡ first
      same = mounted_is d size (g.seen mid) first represents behind.stands

      serves : Serves (machine turns) (IsIn size) g (HeldBySession r) (Says r)
          (reached r (g.seen new))
          (2 ^ 44) (nothing_staged first) mid new
      serves =
          subst
          (λ (m : Mounted).
          Serves (machine turns) (IsIn size) g (HeldBySession r) (Says r) (reached r (g.seen new))
          (2 ^ 44) (nothing_staged m) mid new)
          same serves'

      waits : Bool
      waits = waits_in (2 ^ 44) (g.input_left old) serves.end

      same_waits : waits_in (2 ^ 44) (g.input_left mid) serves.end ≡ waits
      same_waits = ap (λ (l : List ℕ). waits_in (2 ^ 44) l serves.end) behind.left

      every_cut : IsAtRest g old
          → (o : Outcome)
          → g.outcomes new (g.moment old) o
          → Within first serves.exchanges serves.unfinished waits (g.told old) o ⊎ Else o
      every_cut rest =
          behind.cuts rest serves.exchanges serves.unfinished waits
          (subst
          (λ (b : Bool).
          Adds g.moment g.outcomes mid new
          (Within first serves.exchanges serves.unfinished b (g.told mid)))
          same_waits (serves.time (behind.settled rest)))

      output : List ℕ
      output = output_of (machine turns) (nothing_staged first) serves.exchanges serves.unfinished

      items : RunsItems g size Else (codes "FB01") first
          (items_of (machine turns) (nothing_staged first) serves.exchanges serves.unfinished)
          (closing_of (machine turns) serves.unfinished waits
          (kept_after (machine turns) (nothing_staged first) serves.exchanges))
          (final_of (machine turns) serves.unfinished waits
          (kept_after (machine turns) (nothing_staged first) serves.exchanges))
          (Held (session_status r)) old new
      items = record {
        front = (
          serves.front.0,
          serves.front.1 ∙ ap (λ (l : List ℕ). l ++ take serves.front.0 output) behind.told,
        );
        whole = λ held.
            serves.whole (port_held r held) ∙ ap (λ (l : List ℕ). l ++ output) behind.told;
        stands = λ held.
            subst
            (λ (b : Bool).
            IsIn size
            (final_of (machine turns) serves.unfinished b
            (kept_after (machine turns) (nothing_staged first) serves.exchanges))
            (g.seen new))
            same_waits (serves.stands (port_held r held));
        settled = λ rest held. serves.settled (port_held r held) (behind.settled rest);
        every_cut = every_cut;
      }

  -- a session over the device of the disk
  pub opened_runs : (d : Device) (first : Mounted) (old mid new : D) (r : Answer)
      → Opens g size old mid
      → IsIn size first (g.seen old)
      → Represents d size (g.seen mid)
      → ServesDevice size g d (2 ^ 44) turns mid new r
      → RunsSession g size (λ o. ⊥) turns first old new (session_status r)
  opened_runs d first old mid new r opens is represents serves =
      runs_behind (λ o. ⊥) d first old mid new r
      (record {
        told = opens.told;
        left = opens.left;
        heard = opens.heard;
        stands = opens.device ∙ is;
        settled = opens.settled;
        cuts = λ rest exchanges unfinished waits time o at.
            let P = Within first exchanges unfinished waits (g.told old) in
            inl (all_since g.moment g.outcomes old new P (Leaves (g.told old) (g.may_leave old))
            (adds_on g.moment g.outcomes old mid new P
            (Within first exchanges unfinished waits (g.told mid))
            (adds_wider g.moment g.outcomes old mid
            (LeavesSame (g.told old) size (g.seen old)) P (opens.time rest)
            (λ o' same.
            before_all first exchanges unfinished waits (g.told old) o' same.told_so_far
            (same.same ∙ is)))
            time
            (λ o' within.
            subst (λ (l : List ℕ). Within first exchanges unfinished waits l o') opens.told within))
            (only_now old)
            (λ o' leaves.
            before_all first exchanges unfinished waits (g.told old) o' leaves.told_so_far
            (ap (device size) (settled_image g only_now size old o' rest leaves) ∙ is))
            o at);
      })
      represents serves

  -- ---- a device that is made first

  module _ (set : List SetImage) (limit max : ℕ) where
    -- every outcome of making
    pub making_cuts : (old new : D)
        → Adds g.moment g.outcomes old new
        (LeavesMaking (g.told old) set limit max size (g.seen old))
        → IsAtRest g old
        → (o : Outcome)
        → g.outcomes new (g.moment old) o
        → LeavesMaking (g.told old) set limit max size (g.seen old) o
    making_cuts old new making rest =
        all_since g.moment g.outcomes old new
        (LeavesMaking (g.told old) set limit max size (g.seen old))
        (Leaves (g.told old) (g.may_leave old)) making (only_now old)
        (λ o leaves. record {
          told_so_far = leaves.told_so_far;
          either = inl (settled_image g only_now size old o rest leaves);
        })

    -- the outcomes up to where the made device is opened
    pub prepared : (old mid now : D)
        → g.told mid ≡ g.told old
        → IsMade set limit max size (g.seen mid)
        → Adds g.moment g.outcomes old mid
        (LeavesMaking (g.told old) set limit max size (g.seen old))
        → Adds g.moment g.outcomes mid now (LeavesSame (g.told mid) size (g.seen mid))
        → Adds g.moment g.outcomes old now
        (LeavesMaking (g.told old) set limit max size (g.seen old))
    prepared old mid now told made making opening =
        adds_on g.moment g.outcomes old mid now
        (LeavesMaking (g.told old) set limit max size (g.seen old))
        (LeavesSame (g.told mid) size (g.seen mid)) making opening
        (λ o same. record {
          told_so_far = same.told_so_far ∙ told;
          either = inr (inr (same.same ∙ made));
        })

    -- making failed
    pub making_failed : (old new : D) (status : Status)
        → IsEarly status
        → g.told new ≡ g.told old
        → (status ≡ NoMemory
        → ((g.seen new ≡ g.seen old) × StaysAsIs g old new)
        ⊎ IsMade set limit max size (g.seen new))
        → (IsAtRest g old
        → Adds g.moment g.outcomes old new
        (LeavesMaking (g.told old) set limit max size (g.seen old)))
        → FailsMaking g size set limit max old new status
    making_failed old new status early told memory making = record {
      early = early;
      told = told;
      memory = memory;
      every_cut = λ rest. making_cuts old new (making rest) rest;
    }

    -- opening the made device failed
    pub opening_failed : (old mid new : D) (status : Status)
        → IsEarly status
        → g.told mid ≡ g.told old
        → g.told new ≡ g.told mid
        → (status ≡ NoMemory → g.seen new ≡ g.seen mid)
        → IsMade set limit max size (g.seen mid)
        → IsAtRest g mid
        → (IsAtRest g old
        → Adds g.moment g.outcomes old mid
        (LeavesMaking (g.told old) set limit max size (g.seen old)))
        → (IsAtRest g mid
        → Adds g.moment g.outcomes mid new (LeavesSame (g.told mid) size (g.seen mid)))
        → FailsMaking g size set limit max old new status
    opening_failed old mid new status early told told' seen made rest making opening =
        making_failed old new status early (told' ∙ told)
        (λ memory. inr (subst (IsMade set limit max size) (sym (seen memory)) made))
        (λ before. prepared old mid new told made (making before) (opening rest))

    -- a session over the made device
    pub made_runs : (d : Device) (old mid now new : D) (r : Answer)
        → g.told mid ≡ g.told old
        → g.input_left mid ≡ g.input_left old
        → g.heard mid ≡ g.heard old
        → IsMade set limit max size (g.seen mid)
        → IsAtRest g mid
        → (IsAtRest g old
        → Adds g.moment g.outcomes old mid
        (LeavesMaking (g.told old) set limit max size (g.seen old)))
        → Opens g size mid now
        → Represents d size (g.seen now)
        → ServesDevice size g d (2 ^ 44) turns now new r
        → RunsSession g size (LeavesMaking (g.told old) set limit max size (g.seen old)) turns
        (made_device_of set limit max size) old new (session_status r)
    made_runs d old mid now new r told left heard made rest making opens represents serves =
        runs_behind (LeavesMaking (g.told old) set limit max size (g.seen old)) d
        (made_device_of set limit max size) old now new r
        (record {
          told = opens.told ∙ told;
          left = opens.left ∙ left;
          heard = opens.heard ∙ heard;
          stands = opens.device ∙ made;
          settled = λ before. opens.settled rest;
          cuts = λ before exchanges unfinished waits time o at.
              let earlier = prepared old mid now told made (making before) (opens.time rest) in
              ⊎_elim
              (λ was. inr (making_cuts old now earlier before o was))
              (λ since.
              inl (subst
              (λ (l : List ℕ).
              Within (made_device_of set limit max size) exchanges unfinished waits l o)
              (opens.told ∙ told) since))
              (time.adds (g.moment old) o earlier.later at);
        })
        represents serves

-- ---- where no count rises

module _ {D : Type 0} (g : Ghosts D) (size : ℕ) where
  -- neither the disk nor the port failed
  held_of : (status : Status) → (status ≡ Disk → ⊥) → (status ≡ Port → ⊥) → Held status
  held_of Done disk port = tt
  held_of Usage disk port = tt
  held_of Malformed disk port = tt
  held_of Refused disk port = tt
  held_of NotADevice disk port = tt
  held_of Disk disk port = absurd (disk refl)
  held_of Port disk port = absurd (port refl)
  held_of NoMemory disk port = tt

  -- the session is answered whole
  pub completed : {Fails : Type 0} (Else : Outcome
      → Type 0) (turns : ℕ) (first : Mounted) (old new : D)
      (status : Status)
      → RunsSession g size Else turns first old new status ⊎ Fails
      → (Fails → IsEarly status)
      → (status ≡ Disk → ⊥)
      → (status ≡ Port → ⊥)
      → AnswersAll g old new status turns first ⊎ (status ≡ NoMemory)
  completed Else turns first old new status (inl runs) early disk port =
      let held = held_of status disk port in
      inl (record {
        refused = runs.refused;
        exchanges = runs.exchanges;
        unfinished = runs.unfinished;
        end = runs.end;
        session = runs.session;
        status_is = runs.status_is;
        held = held;
        told = runs.items.whole held;
      })
  completed Else turns first old new status (inr fails) early disk port =
      ⊎_elim (λ failed. absurd (disk failed)) (λ memory. inr memory) (early fails)

-- opening a device, by what it says of the size that the disk has
pub opens_sized : {D : Type 0} (g : Ghosts D) (size' size : ℕ) (old new : D)
    → size' ≡ size
    → Opens g size' old new
    → Opens g size old new
opens_sized g size' size old new sized opens = subst (λ (n : ℕ). Opens g n old new) sized opens
