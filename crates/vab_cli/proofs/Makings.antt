-- Making a device as a run of the program.
use Rattle.std.proofs.Common.{◌≡◌, ◌≢◌, ◌⊎◌, ◌∙◌, inl, inr, ⊎_elim, ◌<◌, ◌≤◌, ◌-◌, arith, true}
use Rattle.std.proofs.Common.{false, ℕ, List, [], ◌++◌, take, Some, None, Err, refl, sym, ap}
use Rattle.std.proofs.Common.{subst, Bool, ◌*◌, if◌then◌else◌}
use Rattle.std.specs.Prelude.{Option, nat_lt}
use Rattle.std.proofs.lemmas.Bool.{cases_eq, cases_lt, le-ltb}
use Rattle.std.proofs.lemmas.Bool.Decides.{nat_tests}
use Rattle.std.proofs.lemmas.List.{append-nil}
use Rattle.vab_disk.specs.declared.disk.Disk.{Ghosts}
use Rattle.vab_disk.specs.Disk.{Image, Outcome, Leaves, SameHoldings, Adds, Nothing}
use Rattle.vab_disk.specs.Calls.{IsAtRest, OnlyReads}
use Rattle.vab_disk.specs.Port.{LeavesSaying}
use Rattle.vab_disk.specs.Written.{same_image}
use Rattle.vab_disk.proofs.Moments.{adds_wider, adds_on, all_since}
use Rattle.vab_set.specs.declared.set.SetImage.{SetImage}
use Rattle.vab_device.specs.Mounted.{Mounted}
use Rattle.vab_device.specs.Reading.{device, IsIn}
use Rattle.vab_make.specs.declared.fault.MakeFault.{MakeFault}
use Rattle.vab_make.specs.declared.fault.MakeFault.TheVariants as make
use Rattle.vab_tables.specs.Rules.{cap_of}
use Rattle.vab_make.specs.Made.{is_over, made_device, made_device_of, refusal_of, set_blocks}
use Rattle.vab_make.specs.Made.{set_text_size}
use Rattle.vab_make.specs.Making.{Gives, IsOfDisk, LeavesMaking}
use Rattle.vab_exchanges.specs.Runs.{LeavesItem}
use Rattle.vab_exchanges.proofs.RunLaws.{closes, telling, within_item}
use Rattle.vab_cli.specs.declared.status.Status.{Status}
use Rattle.vab_cli.specs.declared.status.Status.TheVariants.{Done, Disk, NotADevice, Port, NoMemory}
use Rattle.vab_cli.specs.Codes.{make_status, input_status}
use Rattle.vab_input.specs.declared.input.InputFault.{InputFault}
use Rattle.vab_input.specs.declared.input.InputFault.TheVariants as input
use Rattle.vab_cli.specs.Telling.{Tells}
use Rattle.vab_cli.specs.Verbs.{is_silent, make_line, line_item}
use Rattle.vab_cli.specs.Runs.{GivesWithin, IsFailed, LeavesTelling, RunsGiving}
use Rattle.vab_cli.specs.Runs.{RunsMaking, RunsUnwritten, StaysAsIs}
use Rattle.vab_cli.specs.MadeDisk.{HoldsMade}
use Rattle.vab_cli.proofs.Running.{moment_stays, settled_image}

-- ---- faults of making

-- what refuses a set is no fault of the disk
pub not_of_disk : (f fault : MakeFault) → Gives {A = Unit {0}} (Err f) (Some fault) → IsOfDisk f → ⊥
not_of_disk (make.TooSmall need have) fault gives disk = disk
not_of_disk (make.GroupLimit used limit) fault gives disk = disk
not_of_disk (make.NoRoom used blocks) fault gives disk = disk
not_of_disk (make.TableFull size max) fault gives disk = disk
not_of_disk make.NoMemory fault gives disk = disk
not_of_disk (make.Disk d) fault gives disk = let same = gives in cc

pub silent_early : (f : MakeFault)
    → is_silent f ≡ true
    → (make_status f ≡ Disk) ⊎ (f ≡ make.NoMemory)
silent_early (make.TooSmall need have) is = cc
silent_early (make.GroupLimit used limit) is = cc
silent_early (make.NoRoom used blocks) is = cc
silent_early (make.TableFull size max) is = cc
silent_early make.NoMemory is = inr refl
silent_early (make.Disk d) is = inl refl

-- want of memory is no fault of the disk
pub memory_of_none : (f : MakeFault) → make_status f ≡ NoMemory → IsOfDisk f → ⊥
memory_of_none (make.TooSmall need have) is disk = disk
memory_of_none (make.GroupLimit used limit) is disk = disk
memory_of_none (make.NoRoom used blocks) is disk = disk
memory_of_none (make.TableFull size max) is disk = disk
memory_of_none make.NoMemory is disk = disk
memory_of_none (make.Disk d) is disk = cc

-- where there is a refusal and nothing is told, memory was refused
pub silent_memory : (f fault : MakeFault)
    → Gives {A = Unit {0}} (Err f) (Some fault)
    → is_silent f ≡ true
    → make_status f ≡ NoMemory
silent_memory (make.TooSmall need have) fault gives is = cc
silent_memory (make.GroupLimit used limit) fault gives is = cc
silent_memory (make.NoRoom used blocks) fault gives is = cc
silent_memory (make.TableFull size max) fault gives is = cc
silent_memory make.NoMemory fault gives is = refl
silent_memory (make.Disk d) fault gives is = let same = gives in cc

-- where something is told memory wasn't refused
pub loud_memory : (f : MakeFault) → is_silent f ≡ false → make_status f ≡ NoMemory → ⊥
loud_memory (make.TooSmall need have) is memory = cc
loud_memory (make.GroupLimit used limit) is memory = cc
loud_memory (make.NoRoom used blocks) is memory = cc
loud_memory (make.TableFull size max) is memory = cc
loud_memory make.NoMemory is memory = cc
loud_memory (make.Disk d) is memory = cc

-- and what is told is the refusal
pub loud_refusal : (f fault : MakeFault)
    → Gives {A = Unit {0}} (Err f) (Some fault)
    → is_silent f ≡ false
    → f ≡ fault
loud_refusal (make.TooSmall need have) fault gives is = let same = gives in cc
loud_refusal (make.GroupLimit used limit) fault gives is = let same = gives in cc
loud_refusal (make.NoRoom used blocks) fault gives is = let same = gives in cc
loud_refusal (make.TableFull size max) fault gives is = let same = gives in cc
loud_refusal make.NoMemory fault gives is = cc
loud_refusal (make.Disk d) fault gives is = cc

-- where nothing refuses it, nothing is told of the fault
pub early_silent : (f : MakeFault) → Gives {A = Unit {0}} (Err f) None → is_silent f ≡ true
early_silent (make.TooSmall need have) gives = cc
early_silent (make.GroupLimit used limit) gives = cc
early_silent (make.NoRoom used blocks) gives = cc
early_silent (make.TableFull size max) gives = cc
early_silent make.NoMemory gives = refl
early_silent (make.Disk d) gives = refl

-- where memory was refused there is no line
pub silent_line : (f : MakeFault) → make_status f ≡ NoMemory → make_line f ≡ []
silent_line (make.TooSmall need have) is = cc
silent_line (make.GroupLimit used limit) is = cc
silent_line (make.NoRoom used blocks) is = cc
silent_line (make.TableFull size max) is = cc
silent_line make.NoMemory is = refl
silent_line (make.Disk d) is = cc

-- too few sectors are refused
pub small_refused : (set : List SetImage) (limit max size : ℕ)
    → size < 6152
    → refusal_of set limit max size ≡ Some (make.TooSmall 6152 size)
unfolding refusal_of
small_refused set limit max size small = grind (arith, nat_tests)

pub enough_sectors : (set : List SetImage) (limit max size : ℕ)
    → refusal_of set limit max size ≡ None
    → 6152 ≤ size
enough_sectors set limit max size none = elim (cases_eq (6152 - size) 0) [
  | inl enough ↦ omega (arith, enough)
  | inr few ↦ let refused = small_refused set limit max size (omega (arith, few)) in cc
]

not_small : (over room full : Bool) (a b c d e f need have : ℕ)
    → (if over then Some (make.GroupLimit a b)
    else (if room then Some (make.NoRoom c d)
    else (if full then Some (make.TableFull e f) else None)))
    ≡ Some (make.TooSmall need have)
    → ⊥
not_small true room full a b c d e f need have is = cc
not_small false true full a b c d e f need have is = cc
not_small false false true a b c d e f need have is = cc
not_small false false false a b c d e f need have is = cc

other_refusal : (set : List SetImage) (limit max size need have : ℕ)
    → 6152 ≤ size
    → refusal_of set limit max size ≡ Some (make.TooSmall need have)
    → ⊥
unfolding refusal_of
other_refusal set limit max size need have enough is =
    let used : ℕ = set_blocks set in
    let cap : ℕ = cap_of (made_device size) in
    let text : ℕ = set_text_size set limit size in
    not_small (is_over set limit) (nat_lt cap used) (nat_lt max text) (4096 * used) limit used cap
    text max need have
    (subst
    (λ (b : Bool).
    (if b then Some (make.TooSmall 6152 size)
    else (if is_over set limit then Some (make.GroupLimit (4096 * used) limit)
    else (if nat_lt cap used then Some (make.NoRoom used cap)
    else (if nat_lt max text then Some (make.TableFull text max) else None))))
    ≡ Some (make.TooSmall need have))
    (le-ltb size 6152 enough) is)

-- no device is there, since there are too few sectors
small_said : (f : MakeFault) (said : Option MakeFault)
    → Gives {A = Unit {0}} (Err f) said
    → make_status f ≡ NotADevice
    → (need : ℕ) × (have : ℕ) × (said ≡ Some (make.TooSmall need have))
small_said (make.TooSmall need have) said gives is = (need, have, gives)
small_said (make.GroupLimit used limit) said gives is = cc
small_said (make.NoRoom used blocks) said gives is = cc
small_said (make.TableFull size max) said gives is = cc
small_said make.NoMemory said gives is = cc
small_said (make.Disk d) said gives is = cc

too_few : (set : List SetImage) (limit max size need have : ℕ)
    → refusal_of set limit max size ≡ Some (make.TooSmall need have)
    → size < 6152
too_few set limit max size need have is = elim (cases_lt size 6152) [
  | inl few ↦ few
  | inr enough ↦ absurd (other_refusal set limit max size need have enough is)
]

pub small_made : (set : List SetImage) (limit max size : ℕ) (f : MakeFault)
    → Gives {A = Unit {0}} (Err f) (refusal_of set limit max size)
    → make_status f ≡ NotADevice
    → size < 6152
small_made set limit max size f gives is =
    let said = small_said f (refusal_of set limit max size) gives is in
    too_few set limit max size said.0 said.1 said.2

pub status_not_port : (f : MakeFault) → make_status f ≢ Port
status_not_port (make.TooSmall need have) is = cc
status_not_port (make.GroupLimit used limit) is = cc
status_not_port (make.NoRoom used blocks) is = cc
status_not_port (make.TableFull size max) is = cc
status_not_port make.NoMemory is = cc
status_not_port (make.Disk d) is = cc

-- ---- faults of the input

-- a longer input ends as malformed
pub heard_fault : (f : InputFault)
    → ((f ≡ input.TooLong) → ⊥)
    → (input_status f ≡ Port) ⊎ (input_status f ≡ NoMemory)
heard_fault input.TooLong other = absurd (other refl)
heard_fault input.Source other = inl refl
heard_fault input.NoMemory other = inr refl

-- where nothing is told of a fault
silent_none : (f : MakeFault) → is_silent f ≡ true → make_line f ≡ []
silent_none (make.TooSmall need have) is = cc
silent_none (make.GroupLimit used limit) is = cc
silent_none (make.NoRoom used blocks) is = cc
silent_none (make.TableFull size max) is = cc
silent_none make.NoMemory is = refl
silent_none (make.Disk d) is = refl

pub tells_nothing : {D : Type 0} (g : Ghosts D) (f : MakeFault) (old : D) (status : Status)
    → is_silent f ≡ true
    → Tells g (make_line f) (make_status f) old old status
tells_nothing g f old status is = record {
  front = (0, sym (append-nil (g.told old)));
  whole = λ same.
      sym
      (ap (λ (l : List ℕ). g.told old ++ l) (silent_none f is) ∙ append-nil (g.told old));
  seen = refl;
  crash = record { keeps = λ s b held. held; no_more = λ s b held. held };
  left = refl;
  heard = refl;
  time = record {
    later = omega arith;
    keeps = λ t o before there. there;
    adds = λ t o before there. inl there;
  };
}

module _ {D : Type 0}
    (g : Ghosts D)
    (only_now : (d : D) (o : Outcome)
    → g.outcomes d (g.moment d) o
    → Leaves (g.told d) (g.may_leave d) o)
    (size : ℕ) where
  -- ---- nothing changes

  -- what a cut of power leaves where a line is told of a disk that stays
  abbrev Stays : List ℕ → D → Outcome → Type 0
  Stays line old = LeavesTelling (g.told old) line (λ (image : Image). image ≡ g.seen old)

  -- every outcome since nothing was pending
  still_cuts : (line : List ℕ) (old new : D)
      → Adds g.moment g.outcomes old new (Stays line old)
      → IsAtRest g old
      → (o : Outcome)
      → g.outcomes new (g.moment old) o
      → Stays line old o
  still_cuts line old new time rest =
      all_since g.moment g.outcomes old new (Stays line old)
      (Leaves (g.told old) (g.may_leave old)) time (only_now old)
      (λ o leaves. record {
        front = (0, leaves.told_so_far ∙ sym (append-nil (g.told old)));
        kind = settled_image g only_now size old o rest leaves;
      })

  none_left : (line : List ℕ) (old mid : D)
      → Adds g.moment g.outcomes old mid Nothing
      → Adds g.moment g.outcomes old mid (Stays line old)
  none_left line old mid before =
      adds_wider g.moment g.outcomes old mid Nothing (Stays line old) before (λ o none. absurd none)

  -- a line is told, where nothing was done before
  pub refused_told : {Fails : Status → Type 0} (line : List ℕ) (ends : Status) (old mid new : D)
      (status : Status)
      → g.told mid ≡ g.told old
      → g.seen mid ≡ g.seen old
      → SameHoldings (g.may_leave old) (g.may_leave mid)
      → Adds g.moment g.outcomes old mid Nothing
      → (ends ≡ NoMemory → line ≡ [])
      → (Fails NoMemory → ⊥)
      → (status ≡ ends) ⊎ Fails status
      → Tells g line ends mid new status
      → RunsUnwritten g size Fails line ends old new status
  refused_told {Fails} line ends old mid new status told seen holds before silent other either
      tells = record {
        status_is = ⊎_elim (λ same. inl same) (λ fails. inr (inl fails)) either;
        front = (let front = tells.front in
            (front.0, front.1 ∙ ap (λ (l : List ℕ). l ++ take front.0 line) told));
        whole = λ same. tells.whole same ∙ ap (λ (l : List ℕ). l ++ line) told;
        untold = λ memory. ⊎_elim
            (λ same.
            tells.whole same
            ∙ ap (λ (l : List ℕ). g.told mid ++ l) (silent (sym same ∙ memory))
            ∙ append-nil (g.told mid) ∙ told)
            (λ fails. absurd (other (subst Fails memory fails))) either;
        same = tells.seen ∙ seen;
        time = on;
        every_cut = λ rest. still_cuts line old new (on rest) rest;
      }
    where
      on : IsAtRest g old → Adds g.moment g.outcomes old new (Stays line old)
      on rest =
          adds_on g.moment g.outcomes old mid new (Stays line old)
          (LeavesSaying (g.told mid) line (g.may_leave mid))
          (none_left line old mid before) tells.time
          (λ o leaves. record {
            front = (
              leaves.front.0,
              leaves.front.1 ∙ ap (λ (l : List ℕ). l ++ take leaves.front.0 line) told,
            );
            kind =
                same_image o.image (g.seen old)
                (λ s. rest s (o.image s) (holds.no_more s (o.image s) (leaves.each_sector s)));
          })

  -- it fails, or memory was refused, and nothing is told
  pub refused_unheard : {Fails : Status → Type 0} (line : List ℕ) (ends : Status) (old new : D)
      (status : Status)
      → g.told new ≡ g.told old
      → g.seen new ≡ g.seen old
      → Adds g.moment g.outcomes old new Nothing
      → (ends ≡ NoMemory → line ≡ [])
      → (Fails ends → line ≡ [])
      → ((status ≡ ends) × (line ≡ [])) ⊎ (Fails status ⊎ (status ≡ NoMemory))
      → RunsUnwritten g size Fails line ends old new status
  refused_unheard {Fails} line ends old new status told seen before silent other either = record {
    status_is = ⊎_elim (λ same. inl same.0) (λ rest. inr rest) either;
    front = (0, told ∙ sym (append-nil (g.told old)));
    whole = λ same.
        told ∙ sym (append-nil (g.told old))
        ∙ ap (λ (l : List ℕ). g.told old ++ l) (sym (empty same either));
    untold = λ memory. told;
    same = seen;
    time = λ rest. none_left line old new before;
    every_cut = λ rest. still_cuts line old new (none_left line old new before) rest;
  }
    where
      empty : status ≡ ends
          → ((status ≡ ends) × (line ≡ [])) ⊎ (Fails status ⊎ (status ≡ NoMemory))
          → line ≡ []
      empty same (inl both) = both.1
      empty same (inr (inl fails)) = other (subst Fails same fails)
      empty same (inr (inr memory)) = silent (sym same ∙ memory)

  -- what was said of a run from behind what only reads, of the run from before it
  pub refused_after : {Fails : Status → Type 0} (line : List ℕ) (ends : Status) (old mid new : D)
      (status : Status)
      → g.told mid ≡ g.told old
      → g.seen mid ≡ g.seen old
      → SameHoldings (g.may_leave old) (g.may_leave mid)
      → Adds g.moment g.outcomes old mid Nothing
      → RunsUnwritten g size Fails line ends mid new status
      → RunsUnwritten g size Fails line ends old new status
  refused_after line ends old mid new status told seen holds before runs = record {
    status_is = runs.status_is;
    front = (let front = runs.front in
        (front.0, front.1 ∙ ap (λ (l : List ℕ). l ++ take front.0 line) told));
    whole = λ same. runs.whole same ∙ ap (λ (l : List ℕ). l ++ line) told;
    untold = λ memory. runs.untold memory ∙ told;
    same = runs.same ∙ seen;
    time = on;
    every_cut = λ rest. still_cuts line old new (on rest) rest;
  }
    where
      on : IsAtRest g old → Adds g.moment g.outcomes old new (Stays line old)
      on rest =
          adds_on g.moment g.outcomes old mid new (Stays line old) (Stays line mid)
          (none_left line old mid before)
          (runs.time (λ s b held.
          rest s b (holds.no_more s b held) ∙ ap (λ (x : Image). x s) (sym seen)))
          (λ o left. record {
            front = (
              left.front.0,
              left.front.1 ∙ ap (λ (l : List ℕ). l ++ take left.front.0 line) told,
            );
            kind = left.kind ∙ seen;
          })

  -- ---- the disk becomes a device

  module _ (first : Mounted) (line : List ℕ) (Holds : Image → Type 0) where
    giving_cuts : (Before : Outcome → Type 0) (old new : D)
        → ((o : Outcome) → o.told ≡ g.told old → o.image ≡ g.seen old → Before o)
        → Adds g.moment g.outcomes old new (GivesWithin g size Before first line (g.told old))
        → IsAtRest g old
        → (o : Outcome)
        → g.outcomes new (g.moment old) o
        → GivesWithin g size Before first line (g.told old) o
    giving_cuts Before old new untouched time rest =
        all_since g.moment g.outcomes old new (GivesWithin g size Before first line (g.told old))
        (Leaves (g.told old) (g.may_leave old)) time (only_now old)
        (λ o leaves.
        inr (untouched o leaves.told_so_far (settled_image g only_now size old o rest leaves)))

    -- the line is told of the device
    line_told : (old mid : D)
        → g.told mid ≡ g.told old
        → IsIn size first (g.seen mid)
        → IsAtRest g mid
        → (o : Outcome)
        → LeavesSaying (g.told mid) line (g.may_leave mid) o
        → LeavesItem (IsIn size) (g.told old) (line_item first line) o
    line_told old mid told is rest =
        telling (IsIn size) (g.told old) (g.told mid) (line_item first line) [] line []
        (g.may_leave mid)
        (sym (append-nil line)) (told ∙ sym (append-nil (g.told old))) (inl refl)
        (λ o leaves.
        ap (device size)
        (same_image o.image (g.seen mid) (λ s. rest s (o.image s) (leaves.each_sector s)))
        ∙ is)

    giving_left : (Before : Outcome → Type 0) (old mid : D)
        → Adds g.moment g.outcomes old mid Before
        → Adds g.moment g.outcomes old mid (GivesWithin g size Before first line (g.told old))
    giving_left Before old mid giving =
        adds_wider g.moment g.outcomes old mid Before
        (GivesWithin g size Before first line (g.told old)) giving (λ o leaves. inr leaves)

    -- the device is there, and the line is told, whole or in part
    pub giving_told : (Before : Outcome → Type 0) (old mid new : D) (status : Status)
        → ((o : Outcome) → o.told ≡ g.told old → o.image ≡ g.seen old → Before o)
        → g.told mid ≡ g.told old
        → IsIn size first (g.seen mid)
        → Holds (g.seen mid)
        → IsAtRest g mid
        → (IsAtRest g old → Adds g.moment g.outcomes old mid Before)
        → (status ≡ Done) ⊎ (status ≡ Port)
        → Tells g line Done mid new status
        → RunsGiving g size Before Holds first line old new status
    giving_told Before old mid new status untouched told is holds rest giving either
        tells = record {
          status_is = ⊎_elim (λ done. inl done) (λ port. inr (inl (inr port))) either;
          front = (let front = tells.front in
              (front.0, front.1 ∙ ap (λ (l : List ℕ). l ++ take front.0 line) told));
          whole = λ done. tells.whole done ∙ ap (λ (l : List ℕ). l ++ line) told;
          untold = λ memory. ⊎_elim (λ done. cc) (λ port. cc) either;
          memory = λ memory. ⊎_elim (λ done. cc) (λ port. cc) either;
          stands = λ done. ap (device size) tells.seen ∙ is;
          holds = λ done. subst Holds (sym tells.seen) holds;
          settled = λ done s b held.
              rest s b ((let crash = tells.crash in crash.no_more) s b held)
              ∙ ap (λ (x : Image). x s) (sym tells.seen);
          time = on;
          every_cut = λ before. giving_cuts Before old new untouched (on before) before;
        }
      where
        on : IsAtRest g old
            → Adds g.moment g.outcomes old new (GivesWithin g size Before first line (g.told old))
        on before =
            adds_on g.moment g.outcomes old mid new
            (GivesWithin g size Before first line (g.told old))
            (LeavesSaying (g.told mid) line (g.may_leave mid))
            (giving_left Before old mid (giving before)) tells.time
            (λ o leaves.
            inl (within_item (IsIn size) [] [] first [] [] (line_item first line) (g.told old)
            (g.told old) (closes [] (line_item first line).last.now)
            (sym (append-nil (g.told old))) o (line_told old mid told is rest o leaves)))

    -- the disk or the port failed, or memory was refused, and nothing is told
    pub giving_untold : (Before : Outcome → Type 0) (old new : D) (status : Status)
        → ((o : Outcome) → o.told ≡ g.told old → o.image ≡ g.seen old → Before o)
        → g.told new ≡ g.told old
        → g.is_modelled
        → (status ≡ NoMemory → OnlyReads g old new)
        → (IsAtRest g old → Adds g.moment g.outcomes old new Before)
        → IsFailed status ⊎ (status ≡ NoMemory)
        → RunsGiving g size Before Holds first line old new status
    giving_untold Before old new status untouched told t reads giving either = record {
      status_is = inr either;
      front = (0, told ∙ sym (append-nil (g.told old)));
      whole = λ done. absurd (never done either);
      untold = λ memory. (told, (reads memory).seen t);
      memory = λ memory. moment_stays g only_now size old new ((reads memory).time t);
      stands = λ done. absurd (never done either);
      holds = λ done. absurd (never done either);
      settled = λ done. absurd (never done either);
      time = λ rest. giving_left Before old new (giving rest);
      every_cut = λ rest.
          giving_cuts Before old new untouched (giving_left Before old new (giving rest)) rest;
    }
      where
        never : status ≡ Done → IsFailed status ⊎ (status ≡ NoMemory) → ⊥
        never done (inl (inl disk)) = cc
        never done (inl (inr port)) = cc
        never done (inr memory) = cc

  -- ---- a device is made

  pub unmade_yet : (set : List SetImage) (limit max : ℕ) (old : D) (o : Outcome)
      → o.told ≡ g.told old
      → o.image ≡ g.seen old
      → LeavesMaking (g.told old) set limit max size (g.seen old) o
  unmade_yet set limit max old o told same = record {
    told_so_far = told;
    either = inl same;
  }

  module _ (set : List SetImage) (limit max : ℕ) (line : List ℕ) where
    -- what a cut of power leaves
    abbrev Makes : List ℕ → Image → Outcome → Type 0
    Makes told image o =
        GivesWithin g size (LeavesMaking told set limit max size image)
        (made_device_of set limit max size) line told o

    -- what was said of a run from behind what only reads, of the run from before it
    pub making_after : (old mid new : D) (status : Status)
        → g.told mid ≡ g.told old
        → g.seen mid ≡ g.seen old
        → SameHoldings (g.may_leave old) (g.may_leave mid)
        → Adds g.moment g.outcomes old mid Nothing
        → (status ≡ NoMemory → new ≡ mid)
        → RunsMaking g size set limit max line mid new status
        → RunsMaking g size set limit max line old new status
    making_after old mid new status told seen holds before untouched runs = record {
      status_is = runs.status_is;
      front = (let front = runs.front in
          (front.0, front.1 ∙ ap (λ (l : List ℕ). l ++ take front.0 line) told));
      whole = λ done. runs.whole done ∙ ap (λ (l : List ℕ). l ++ line) told;
      untold = λ memory. (let untold = runs.untold memory in (untold.0 ∙ told, untold.1 ∙ seen));
      memory = λ memory.
          subst (λ (x : D). StaysAsIs g old x) (sym (untouched memory))
          (moment_stays g only_now size old mid before);
      stands = runs.stands;
      holds = λ done.
          subst (λ (x : Image). HoldsMade max x (g.seen new)) seen (runs.holds done);
      settled = runs.settled;
      time = on;
      every_cut = λ rest.
          giving_cuts (made_device_of set limit max size) line (HoldsMade max (g.seen old))
          (LeavesMaking (g.told old) set limit max size (g.seen old)) old new
          (unmade_yet set limit max old) (on rest) rest;
    }
      where
        moved : (o : Outcome)
            → Makes (g.told mid) (g.seen mid) o
            → Makes (g.told old) (g.seen old) o
        moved o =
            subst
            (λ (x : Image). Makes (g.told mid) (g.seen mid) o → Makes (g.told old) x o) seen
            (subst
            (λ (l : List ℕ). Makes (g.told mid) (g.seen mid) o → Makes l (g.seen mid) o)
            told (λ is. is))

        on : IsAtRest g old
            → Adds g.moment g.outcomes old new (Makes (g.told old) (g.seen old))
        on rest =
            adds_on g.moment g.outcomes old mid new (Makes (g.told old) (g.seen old))
            (Makes (g.told mid) (g.seen mid))
            (adds_wider g.moment g.outcomes old mid Nothing (Makes (g.told old) (g.seen old))
            before
            (λ o none. absurd none))
            (runs.time (λ s b held.
            rest s b (holds.no_more s b held) ∙ ap (λ (x : Image). x s) (sym seen)))
            moved
