-- Runs of the program, by what their parts do.
use Rattle.std.proofs.Common.{◌≡◌, ◌≢◌, ◌⊎◌, ◌∙◌, inl, inr, ⊎_elim, ◌<◌, ℕ, List, [], ◌∷◌, ◌++◌}
use Rattle.std.proofs.Common.{length, take, Result, Ok, Err, OnOk, false, refl, sym, ap, subst}
use Rattle.std.proofs.Common.{arith, length-append}
use Rattle.std.proofs.lemmas.List.{append-nil}
use Rattle.std.specs.Result.{is_err}
use Rattle.vab_disk.specs.declared.disk.Disk.{Ghosts}
use Rattle.vab_disk.specs.Disk.{Image, Outcome, Leaves, SameHoldings, Adds, Nothing}
use Rattle.vab_disk.specs.Calls.{IsAtRest, OnlyReads}
use Rattle.vab_disk.specs.Written.{same_image}
use Rattle.vab_disk.proofs.Moments.{adds_none, adds_wider, adds_on, all_since}
use Rattle.vab_device.specs.declared.fault.StartFault.{StartFault}
use Rattle.vab_device.specs.declared.fault.StartFault.TheVariants as start
use Rattle.vab_device.specs.Faults.{IsOfContents, IsOfDisk}
use Rattle.vab_device.specs.Mounted.{Mounted}
use Rattle.vab_device.specs.Reading.{device, IsIn}
use Rattle.vab_recover.specs.Opening.{LeavesSame}
use Rattle.vab_model.specs.Effects.{IsOneOf}
use Rattle.vab_exchanges.specs.Items.{Item}
use Rattle.vab_exchanges.specs.Runs.{CrashesWithin, LeavesItem}
use Rattle.vab_exchanges.proofs.RunLaws.{closes, within_item}
use Rattle.vab_cli.specs.declared.status.Status.{Status}
use Rattle.vab_cli.specs.declared.status.Status.TheVariants.{NotADevice, Disk}
use Rattle.vab_cli.specs.declared.status.Status.TheVariants.{NoMemory}
use Rattle.vab_cli.specs.Codes.{start_status}
use Rattle.vab_cli.specs.Opening.{Opens}
use Rattle.vab_cli.specs.Runs.{FailsBefore, IsEarly, IsFailed, LeavesAsIs, RunsItem, RunsItems}
use Rattle.vab_cli.specs.Runs.{RunsShort, StaysAsIs}
use Rattle.vab_cli.specs.Telling.{DoesItem, LeavesShort}

-- Nothing is told, and the disk means the same in every outcome.
pub record MeansSame {D : Type 0} (g : Ghosts D) (size : ℕ) (old new : D) : Type 0 where
  pub told : g.told new ≡ g.told old
  pub device : device size (g.seen new) ≡ device size (g.seen old)
  pub settled : IsAtRest g old → IsAtRest g new
  pub time : IsAtRest g old
      → Adds g.moment g.outcomes old new (LeavesSame (g.told old) size (g.seen old))

-- as where a device is opened
pub same_opened : {D : Type 0} (g : Ghosts D) (size : ℕ) (old new : D)
    → Opens g size old new
    → MeansSame g size old new
same_opened g size old new opens = record {
  told = opens.told;
  device = opens.device;
  settled = opens.settled;
  time = opens.time;
}

-- and where input is heard behind that
pub same_heard : {D : Type 0} (g : Ghosts D) (size : ℕ) (old mid new : D)
    → MeansSame g size old mid
    → g.told new ≡ g.told mid
    → g.seen new ≡ g.seen mid
    → SameHoldings (g.may_leave mid) (g.may_leave new)
    → Adds g.moment g.outcomes mid new Nothing
    → MeansSame g size old new
same_heard g size old mid new same told seen crash time = record {
  told = told ∙ same.told;
  device = ap (device size) seen ∙ same.device;
  settled = λ rest s b held.
      same.settled rest s b (crash.no_more s b held) ∙ ap (λ (x : Image). x s) (sym seen);
  time = λ rest.
      adds_on g.moment g.outcomes old mid new (LeavesSame (g.told old) size (g.seen old)) Nothing
      (same.time rest) time (λ o none. absurd none);
}

-- ---- why a device isn't opened

pub contents_of : (f : StartFault) → start_status f ≡ NotADevice → IsOfContents f
contents_of (start.TooSmall need have) is = tt
contents_of (start.BadMark sector) is = tt
contents_of (start.BadControl fault) is = tt
contents_of start.BadPhysical is = tt
contents_of start.BadGeometry is = tt
contents_of (start.BadTable slot) is = tt
contents_of (start.BadPartition name) is = tt
contents_of (start.BadStore name) is = tt
contents_of (start.BadState rule) is = tt
contents_of start.NoMemory is = cc
contents_of (start.Disk fault) is = cc

pub early_of : (f : StartFault) → start_status f ≢ NotADevice → IsEarly (start_status f)
early_of (start.TooSmall need have) other = absurd (other refl)
early_of (start.BadMark sector) other = absurd (other refl)
early_of (start.BadControl fault) other = absurd (other refl)
early_of start.BadPhysical other = absurd (other refl)
early_of start.BadGeometry other = absurd (other refl)
early_of (start.BadTable slot) other = absurd (other refl)
early_of (start.BadPartition name) other = absurd (other refl)
early_of (start.BadStore name) other = absurd (other refl)
early_of (start.BadState rule) other = absurd (other refl)
early_of start.NoMemory other = inr refl
early_of (start.Disk fault) other = inl refl

-- a fault that ends otherwise than as the disk's is none of the disk
pub not_of_disk_by : (f : StartFault) → start_status f ≢ Disk → IsOfDisk f → ⊥
not_of_disk_by (start.TooSmall need have) other is = is
not_of_disk_by (start.BadMark sector) other is = is
not_of_disk_by (start.BadControl fault) other is = is
not_of_disk_by start.BadPhysical other is = is
not_of_disk_by start.BadGeometry other is = is
not_of_disk_by (start.BadTable slot) other is = is
not_of_disk_by (start.BadPartition name) other is = is
not_of_disk_by (start.BadStore name) other is = is
not_of_disk_by (start.BadState rule) other is = is
not_of_disk_by start.NoMemory other is = is
not_of_disk_by (start.Disk fault) other is = other refl

pub memory_other : {status : Status} → status ≡ NoMemory → status ≢ Disk
memory_other is other = cc

-- what is of the contents isn't of the disk
pub contents_no_disk : (f : StartFault) → IsOfContents f → IsOfDisk f → ⊥
contents_no_disk (start.TooSmall need have) contents is = is
contents_no_disk (start.BadMark sector) contents is = is
contents_no_disk (start.BadControl fault) contents is = is
contents_no_disk start.BadPhysical contents is = is
contents_no_disk start.BadGeometry contents is = is
contents_no_disk (start.BadTable slot) contents is = is
contents_no_disk (start.BadPartition name) contents is = is
contents_no_disk (start.BadStore name) contents is = is
contents_no_disk (start.BadState rule) contents is = is
contents_no_disk start.NoMemory contents is = is
contents_no_disk (start.Disk fault) contents is = contents

pub if_ok : {A E P : Type 0} (r : Result A E) → is_err r ≡ false → OnOk r P → P
if_ok (Ok x) held p = p
if_ok (Err e) held p = cc

-- a disk that is a device isn't none
pub is_one : {R : Type 0} (size : ℕ) (s : Mounted) (image : Image) (f : StartFault)
    → IsIn size s image
    → device size image ≡ Err f
    → R
is_one size s image f is none = cc

module _ {D : Type 0}
    (g : Ghosts D)
    (only_now : (d : D) (o : Outcome)
    → g.outcomes d (g.moment d) o
    → Leaves (g.told d) (g.may_leave d) o)
    (size : ℕ) where
  -- the outcome of a disk with nothing pending
  pub settled_image : (d : D) (o : Outcome)
      → IsAtRest g d
      → Leaves (g.told d) (g.may_leave d) o
      → o.image ≡ g.seen d
  settled_image d o settled leaves =
      same_image o.image (g.seen d) (λ s. settled s (o.image s) (leaves.each_sector s))

  -- a disk with nothing pending leaves itself
  leaves_same : (old : D) (o : Outcome)
      → IsAtRest g old
      → Leaves (g.told old) (g.may_leave old) o
      → LeavesSame (g.told old) size (g.seen old) o
  leaves_same old o settled leaves = record {
    told_so_far = leaves.told_so_far;
    same = ap (device size) (settled_image old o settled leaves);
  }

  -- every outcome of a disk that means the same
  pub same_cuts : (old new : D)
      → Adds g.moment g.outcomes old new (LeavesSame (g.told old) size (g.seen old))
      → IsAtRest g old
      → (o : Outcome)
      → g.outcomes new (g.moment old) o
      → LeavesSame (g.told old) size (g.seen old) o
  same_cuts old new time settled =
      all_since g.moment g.outcomes old new (LeavesSame (g.told old) size (g.seen old))
      (Leaves (g.told old) (g.may_leave old)) time (only_now old)
      (λ o leaves. leaves_same old o settled leaves)

  -- a device that is opened is the one that it was
  pub opened_in : (old mid : D) (s : Mounted)
      → Opens g size old mid
      → IsIn size s (g.seen old)
      → IsIn size s (g.seen mid)
  opened_in old mid s opens is = opens.device ∙ is

  -- what adds no outcome leaves all as it was
  pub moment_stays : (old new : D)
      → Adds g.moment g.outcomes old new Nothing
      → StaysAsIs g old new
  moment_stays old new time rest =
      all_since g.moment g.outcomes old new (LeavesAsIs (g.told old) (g.seen old))
      (Leaves (g.told old) (g.may_leave old))
      (adds_wider g.moment g.outcomes old new Nothing (LeavesAsIs (g.told old) (g.seen old))
      time (λ o none. absurd none))
      (only_now old)
      (λ o leaves. record {
        told_so_far = leaves.told_so_far;
        same = settled_image old o rest leaves;
      })

  -- so does what isn't done
  pub untouched_stays : (old new : D)
      → new ≡ old
      → (g.seen new ≡ g.seen old) × StaysAsIs g old new
  untouched_stays old new same =
      subst (λ (d : D). (g.seen d ≡ g.seen old) × StaysAsIs g old d) (sym same)
      (refl, moment_stays old old (adds_none g.moment g.outcomes old Nothing))

  -- opening failed
  pub fails_before : (s : Mounted) (old new : D) (status : Status)
      → g.is_modelled
      → IsIn size s (g.seen old)
      → IsEarly status
      → g.told new ≡ g.told old
      → (status ≡ NoMemory → OnlyReads g old new)
      → (IsAtRest g old
      → Adds g.moment g.outcomes old new (LeavesSame (g.told old) size (g.seen old)))
      → FailsBefore g size s old new status
  fails_before s old new status t is early told reads time = record {
    early = early;
    told = told;
    same = λ memory. (reads memory).seen t;
    memory = λ memory. moment_stays old new ((reads memory).time t);
    every_cut = λ rest o at.
        let left = same_cuts old new (time rest) rest o at in
        record { told_so_far = left.told_so_far; stands = left.same ∙ is };
  }

  -- ---- one item

  module _ (s : Mounted) (item : Item Mounted)
      (first : IsOneOf item.steps s)
      (some : (0 < length item.reply)
      ⊎ ((image : Image) → IsIn size s image → IsIn size item.last.now image)) where
    -- before anything of it is done
    before_item : (told : List ℕ) (o : Outcome)
        → o.told ≡ told
        → IsIn size s o.image
        → LeavesItem (IsIn size) told item o
    before_item told o same is = record {
      front = (0, same ∙ sym (append-nil told));
      step = (s, first, is);
      whole = λ all.
          ⊎_elim
          (λ long.
          absurd (omega (arith, long, ap length (sym same ∙ all), length-append told item.reply)))
          (λ last. last o.image is)
          some;
    }

    -- what an item leaves is within the run of it alone
    within_one : (told : List ℕ) (o : Outcome)
        → LeavesItem (IsIn size) told item o
        → CrashesWithin (IsIn size) [] s (item ∷ []) [] told o
    within_one told o leaves =
        within_item (IsIn size) [] [] s [] [] item told told (closes [] item.last.now)
        (sym (append-nil told)) o leaves

    -- every outcome of an item that is done on a device that is opened
    item_cuts : (old mid new : D)
        → MeansSame g size old mid
        → IsIn size s (g.seen old)
        → Adds g.moment g.outcomes mid new (LeavesItem (IsIn size) (g.told mid) item)
        → IsAtRest g old
        → (o : Outcome)
        → g.outcomes new (g.moment old) o
        → CrashesWithin (IsIn size) [] s (item ∷ []) [] (g.told old) o
    item_cuts old mid new opens is does rest o at =
        within_one (g.told old) o
        (all_since g.moment g.outcomes old new P (Leaves (g.told old) (g.may_leave old))
        (adds_on g.moment g.outcomes old mid new P
        (LeavesItem (IsIn size) (g.told mid) item)
        (adds_wider g.moment g.outcomes old mid (LeavesSame (g.told old) size (g.seen old)) P
        (opens.time rest)
        (λ o' same. before_item (g.told old) o' same.told_so_far (same.same ∙ is)))
        does
        (λ o' leaves.
        subst (λ (l : List ℕ). LeavesItem (IsIn size) l item o') opens.told leaves))
        (only_now old)
        (λ o' leaves.
        before_item (g.told old) o' leaves.told_so_far
        (ap (device size) (settled_image old o' rest leaves) ∙ is))
        o at)
      where
        P : Outcome → Type 0
        P = LeavesItem (IsIn size) (g.told old) item

    -- items of which there is one
    one_item : (Whole : Type 0) (old new : D)
        → ((n : ℕ) × (g.told new ≡ g.told old ++ take n item.reply))
        → (Whole → g.told new ≡ g.told old ++ item.reply)
        → (Whole → IsIn size item.last.now (g.seen new))
        → (IsAtRest g old → Whole → IsAtRest g new)
        → (IsAtRest g old
        → (o : Outcome)
        → g.outcomes new (g.moment old) o
        → CrashesWithin (IsIn size) [] s (item ∷ []) [] (g.told old) o)
        → RunsItems g size (λ o. ⊥) [] s (item ∷ []) [] item.last.now Whole old new
    one_item Whole old new front whole stands settled cuts =
        let same = sym (append-nil item.reply) in
        record {
          front = (
            front.0,
            subst (λ (l : List ℕ). g.told new ≡ g.told old ++ take front.0 l) same front.1,
          );
          whole = λ is. subst (λ (l : List ℕ). g.told new ≡ g.told old ++ l) same (whole is);
          stands = stands;
          settled = settled;
          every_cut = λ rest o at. inl (cuts rest o at);
        }

    -- it is done, and ends so
    pub runs_done : (ends : Status) (old mid new : D)
        → MeansSame g size old mid
        → IsIn size s (g.seen old)
        → (status : Status)
        → status ≡ ends
        → DoesItem g {A = Status} {E = Status} size item mid new (Ok status)
        → RunsItem g size s item ends old new status
    runs_done ends old mid new opens stands status is does = record {
      status_is = inl is;
      items = one_item (status ≡ ends) old new
          (let front = does.front in
          (front.0, front.1 ∙ ap (λ (l : List ℕ). l ++ take front.0 item.reply) opens.told))
          (λ same. does.told ∙ ap (λ (l : List ℕ). l ++ item.reply) opens.told)
          (λ same. does.stands)
          (λ rest same. does.settled (opens.settled rest))
          (λ rest. item_cuts old mid new opens stands (does.time (opens.settled rest)) rest);
    }

    -- the disk or the port failed
    pub runs_failed : (ends : Status) (old mid new : D)
        → MeansSame g size old mid
        → IsIn size s (g.seen old)
        → (status : Status)
        → IsFailed status
        → (IsFailed ends → ⊥)
        → DoesItem g {A = Status} {E = Status} size item mid new (Err status)
        → RunsItem g size s item ends old new status
    runs_failed ends old mid new opens stands status failed kind does = record {
      status_is = inr failed;
      items = one_item (status ≡ ends) old new
          (let front = does.front in
          (front.0, front.1 ∙ ap (λ (l : List ℕ). l ++ take front.0 item.reply) opens.told))
          (λ same. absurd (never same))
          (λ same. absurd (never same))
          (λ rest same. absurd (never same))
          (λ rest. item_cuts old mid new opens stands (does.time (opens.settled rest)) rest);
    }
      where
        never : status ≡ ends → ⊥
        never same = kind (subst IsFailed same failed)

    -- Memory was refused in one of its steps.
    pub runs_short : (old mid new : D)
        → MeansSame g size old mid
        → IsIn size s (g.seen old)
        → LeavesShort g size item mid new
        → (status : Status)
        → status ≡ NoMemory
        → DoesItem g {A = Status} {E = Status} size item mid new (Err status)
        → RunsShort g size s item old new status
    runs_short old mid new opens stands short status is does = record {
      memory = is;
      told = short.told ∙ opens.told;
      step = short.step;
      settled = λ rest. short.settled (opens.settled rest);
      every_cut = λ rest o at.
          item_cuts old mid new opens stands (does.time (opens.settled rest)) rest o at;
    }

-- what is told of an item that is whole
pub item_told : {D : Type 0} (g : Ghosts D) (size : ℕ) (first : Mounted) (item : Item Mounted)
    (ends : Status) (old new : D) (status : Status)
    → RunsItem g size first item ends old new status
    → status ≡ ends
    → g.told new ≡ g.told old ++ item.reply
item_told g size first item ends old new status runs is =
    subst
    (λ (l : List ℕ). g.told new ≡ g.told old ++ l)
    (append-nil item.reply)
    (let items = runs.items in items.whole is)

-- what was said of an item with the size of a disk, of the same size
pub does_sized : {D A E : Type 0}
    (g : Ghosts D)
    (size' size : ℕ)
    (item : Mounted → Item Mounted)
    (old new : D)
    (r : Result A E)
    → size' ≡ size
    → ((s : Mounted) → IsIn size' s (g.seen old) → DoesItem g size' (item s) old new r)
    → (s : Mounted)
    → IsIn size s (g.seen old)
    → DoesItem g size (item s) old new r
does_sized g size' size item old new r sized does =
    subst
    (λ (n : ℕ). (s : Mounted) → IsIn n s (g.seen old) → DoesItem g n (item s) old new r)
    sized does
