-- An act that is done on an open device, and closed by its line.
use Rattle.std.proofs.Common.{◌≡◌, ◌∙◌, ◌⊎◌, ⊎_elim, inl, inr, ℕ, ◌<◌, ◌+◌, List, [], ◌∷◌, ◌++◌}
use Rattle.std.proofs.Common.{length, take}
use Rattle.std.proofs.Common.{Result, Ok, Err, refl, sym, ap, subst, arith, length-append}
use Rattle.std.specs.Prelude.{IfOk, IfErr, OnOk, IsErrOf, None}
use Rattle.std.proofs.lemmas.List.{append-nil}
use Rattle.vab_disk.specs.declared.disk.Disk.{Ghosts}
use Rattle.vab_disk.specs.Disk.{Outcome, Faults, Image, Leaves, DiskFailed, SinkFailed}
use Rattle.vab_disk.proofs.CallLaws.{changes_then, changes_telling}
use Rattle.vab_disk.proofs.Moments.{adds_wider}
use Rattle.vab_gate.specs.declared.gate.DiskFault.{DiskFault}
use Rattle.vab_model.specs.declared.command.Reply.{Reply}
use Rattle.vab_model.specs.declared.command.Reply.TheVariants as replies
use Rattle.vab_model.specs.Commands.{Command}
use Rattle.vab_device.specs.declared.device.Device.{Device}
use Rattle.vab_device.specs.Does.{Does}
use Rattle.vab_device.specs.Kept.{IsDevice}
use Rattle.vab_device.specs.Mounted.{Mounted, count_at, mounted_on}
use Rattle.vab_device.specs.Reading.{IsIn, Represents}
use Rattle.vab_device.specs.Updates.{effect_on}
use Rattle.vab_device.proofs.ReadingLaws.{device_stands}
use Rattle.vab_commands.specs.Copies.{HasBothCopies}
use Rattle.vab_commands.specs.Touched.{ChangesAll}
use Rattle.vab_commands.specs.Writes.{IsOfCommand}
use Rattle.vab_commands.proofs.ChangeLaws.{command_changes_all}
use Rattle.vab_commands.proofs.CopiesLaws.{both_copies, copies_stay}
use Rattle.vab_exchanges.specs.Items.{Item, joined}
use Rattle.vab_model.specs.Effects.{IsOneOf}
use Rattle.vab_exchanges.specs.Runs.{LeavesItem}
use Rattle.vab_set.specs.declared.set.SetImage.{SetImage}
use Rattle.vab_cli.specs.declared.status.Status.{Status}
use Rattle.vab_cli.specs.declared.status.Status.TheVariants.{Done, Usage, Malformed, Refused}
use Rattle.vab_cli.specs.declared.status.Status.TheVariants.{NotADevice, Disk, Port, NoMemory}
use Rattle.vab_cli.specs.Acts.{Act, Course, IsStop, LeavesAmong, Performs, PerformsActs}
use Rattle.vab_cli.specs.Acts.{StopsAmong, course}
use Rattle.vab_cli.specs.Acts.{closed_by, command_act, install_act, line_act, status_in, told_by}
use Rattle.vab_cli.specs.Codes.{reply_status}
use Rattle.vab_cli.specs.Counts.{HearsNothing, IsSteady}
use Rattle.vab_update.specs.Install.{install_effect}
use Rattle.vab_cli.specs.Runs.{Held, IsFailed, RunsItem, RunsShort}
use Rattle.vab_cli.specs.Telling.{DoesItem, LeavesShort, Says}
use Rattle.vab_model.specs.Kinds.{IsVerb}
use Rattle.vab_cli.specs.Verbs.{command_line, line_behind, reply_line}
use Rattle.vab_cli.specs.Verbs.{unless_refused}
use Rattle.vab_cli.proofs.Courses.{IsAct, of_item, one_act, performs_as, told_map}
use Rattle.vab_cli.proofs.Installs.{install_long}
use Rattle.vab_cli.proofs.Items.{command_does, command_fails, mounted_is}
use Rattle.vab_cli.proofs.Lines.{not_failed, reply_some, told_line}
use Rattle.vab_cli.proofs.Running.{MeansSame, runs_done, runs_failed, runs_short}

-- ---- acts

-- a command is done or refused
pub reply_ends : (r : Reply) → (reply_status r ≡ Done) ⊎ (reply_status r ≡ Refused)
reply_ends replies.Done = inl refl
reply_ends (replies.Booted slot) = inl refl
reply_ends (replies.Bytes name) = inl refl
reply_ends (replies.Digest sum) = inl refl
reply_ends (replies.Left blocks) = inl refl
reply_ends replies.Merged = inl refl
reply_ends (replies.Refused refusal) = inr refl

pub line_is_act : (text : List ℕ) → 0 < length text → IsAct (line_act text)
line_is_act text some = record {
  begins = λ m. inl refl;
  some = λ m. some;
  ends = λ m. inl refl;
}

pub install_is_act : (set : List SetImage) → IsAct (install_act set)
install_is_act set = record {
  begins = λ m. inl refl;
  some = λ m. install_long m set;
  ends = λ m. reply_ends (install_effect m set).reply;
}

-- something is told behind any text
pub behind_some : (front : List ℕ) (m : Mounted) (c : Command)
    → 0 < length (line_behind front m c)
behind_some front m c =
    let head = unless_refused (effect_on m None c).reply front in
    let some : 0 < length (command_line m c) = reply_some c _ _ _ in
    omega (arith, some, length-append head (command_line m c))

pub command_is_act : (front : List ℕ) (c : Command) → IsAct (command_act front c)
command_is_act front c = record {
  begins = λ m. inl refl;
  some = λ m. behind_some front m c;
  ends = λ m. reply_ends (effect_on m None c).reply;
}

-- ---- one item

module _ {D : Type 0} (g : Ghosts D) (d : Device) (item : Item Mounted) (ends : Status)
    (old new : D) (r : Result Device Status) where
  -- what is promised of a call that does one item
  pub record Acted : Type 0 where
    pub size : g.size new ≡ g.size old
    pub kept : IfOk r (λ next. IsDevice next (g.size old))
    pub geometry : IfOk r (λ next. next.geometry ≡ d.geometry)
    pub represents : g.is_modelled
        → IfOk r (λ next. Represents next (g.size old) (g.seen new))
    pub copies : g.is_modelled → Held (status_in r) → HasBothCopies (g.size old) (g.seen new)
    pub ends_so : g.is_modelled → OnOk (told_by r) (status_in r ≡ ends)
    pub does : g.is_modelled → DoesItem g (g.size old) item old new (told_by r)
    pub short : g.is_modelled → IsErrOf r NoMemory → LeavesShort g (g.size old) item old new
    pub changes : g.is_modelled → ChangesAll g d old new
    pub quiet : g.is_modelled → HearsNothing g old new
    pub stop : IfErr r IsStop
    pub steady : IsSteady g old new (status_in r)
    pub disk : IsErrOf r Disk → DiskFailed (g.faults old) (g.faults new)
    pub port : IsErrOf r Port → SinkFailed (g.faults old) (g.faults new)

  pub performs_item : Acted → Performs g d (of_item item ends) old new r
  performs_item a = record {
    size = a.size;
    kept = a.kept;
    geometry = a.geometry;
    represents = a.represents;
    copies = a.copies;
    ends = a.ends_so;
    told = λ t.
        told_map r _ _
        (λ is. is ∙ ap (λ (l : List ℕ). g.told old ++ l) (sym (append-nil item.reply)))
        (let does = a.does t in does.told);
    stands = λ t. (let does = a.does t in does.stands);
    rest = λ t rest. (let does = a.does t in does.settled) rest;
    front = λ t.
        let does = a.does t in
        let front = does.front in (
          front.0,
          front.1
              ∙ ap (λ (l : List ℕ). g.told old ++ take front.0 l) (sym (append-nil item.reply)),
        );
    short = λ t memory.
        let s = a.short t memory in
        record {
          done = [];
          item = item;
          later = [];
          are = refl;
          told = s.told ∙ sym (append-nil (g.told old));
          step = s.step;
          settled = s.settled;
        };
    time = λ t rest.
        adds_wider g.moment g.outcomes old new _ _ ((let does = a.does t in does.time) rest)
        (λ o l. record {
          done = [];
          item = item;
          later = [];
          are = refl;
          leaves =
              subst (λ (x : List ℕ). LeavesItem (IsIn (g.size old)) x item o)
              (sym (append-nil (g.told old))) l;
        });
    changes = a.changes;
    quiet = a.quiet;
    stop = a.stop;
    steady = a.steady;
    disk = a.disk;
    port = a.port;
  }

-- ---- and back

-- of one item no other is left
only_item : (size : ℕ) (item : Item Mounted) (told : List ℕ) (o : Outcome)
    → LeavesAmong size (item ∷ []) told o
    → LeavesItem (IsIn size) told item o
only_item size item told o l = go l.done l.item l.later l.are l.leaves
  where
    go : (done : List (Item Mounted)) (i : Item Mounted) (later : List (Item Mounted))
        → item ∷ [] ≡ done ++ i ∷ later
        → LeavesItem (IsIn size) (told ++ joined done) i o
        → LeavesItem (IsIn size) told item o
    go [] i later is leaves =
        let same : i ≡ item = cc in
        subst (λ (x : Item Mounted). LeavesItem (IsIn size) told x o) same
        (subst (λ (x : List ℕ). LeavesItem (IsIn size) x i o) (append-nil told) leaves)
    go (x ∷ xs) i later is leaves =
        absurd (omega (arith, ap length is, length-append xs (i ∷ later)))

only_stop : {D : Type 0} (g : Ghosts D) (size : ℕ) (item : Item Mounted) (old new : D)
    → StopsAmong g size (item ∷ []) old new
    → LeavesShort g size item old new
only_stop g size item old new s = go s.done s.item s.later s.are s.told s.step
  where
    go : (done : List (Item Mounted)) (i : Item Mounted) (later : List (Item Mounted))
        → item ∷ [] ≡ done ++ i ∷ later
        → g.told new ≡ g.told old ++ joined done
        → ((m : Mounted) × IsOneOf i.steps m × IsIn size m (g.seen new))
        → LeavesShort g size item old new
    go [] i later is told step =
        let same : i ≡ item = cc in
        record {
          told = told ∙ append-nil (g.told old);
          step =
              subst
              (λ (x : Item Mounted).
              (m : Mounted) × IsOneOf x.steps m × IsIn size m (g.seen new))
              same step;
          settled = s.settled;
        }
    go (x ∷ xs) i later is told step =
        absurd (omega (arith, ap length is, length-append xs (i ∷ later)))

module _ {D : Type 0} (g : Ghosts D) (d : Device) (item : Item Mounted) (ends : Status)
    (old new : D) (r : Result Device Status)
    (p : Performs g d (of_item item ends) old new r) where
  pub does_alone : g.is_modelled → DoesItem g (g.size old) item old new (told_by r)
  does_alone t = record {
    told =
        told_map r _ _
        (λ is. is ∙ ap (λ (l : List ℕ). g.told old ++ l) (append-nil item.reply)) (p.told t);
    front =
        (let front = p.front t in (
          front.0,
          front.1 ∙ ap (λ (l : List ℕ). g.told old ++ take front.0 l) (append-nil item.reply),
        ));
    stands = p.stands t;
    settled = λ rest. p.rest t rest;
    time = λ rest.
        adds_wider g.moment g.outcomes old new _ _ (p.time t rest)
        (only_item (g.size old) item (g.told old));
  }

  pub short_alone : g.is_modelled
      → IsErrOf r NoMemory
      → LeavesShort g (g.size old) item old new
  short_alone t memory = only_stop g (g.size old) item old new (p.short t memory)

-- ---- the run of one item

-- it stops by one of these alone
pub not_stop : {R : Type 0} (s : Status)
    → (s ≡ Refused → ⊥)
    → (s ≡ Disk → ⊥)
    → (s ≡ Port → ⊥)
    → (s ≡ NoMemory → ⊥)
    → IsStop s
    → R
not_stop s refused disk port memory (inl is) = absurd (refused is)
not_stop s refused disk port memory (inr (inl (inl is))) = absurd (disk is)
not_stop s refused disk port memory (inr (inl (inr is))) = absurd (port is)
not_stop s refused disk port memory (inr (inr is)) = absurd (memory is)

module _ {D : Type 0}
    (g : Ghosts D)
    (only_now : (d : D) (o : Outcome)
    → g.outcomes d (g.moment d) o
    → Leaves (g.told d) (g.may_leave d) o)
    (size : ℕ) (s : Mounted) (item : Item Mounted)
    (first : IsOneOf item.steps s)
    (some : 0 < length item.reply)
    (ends : Status)
    (kind : IsFailed ends → ⊥)
    (old mid new : D)
    (same : MeansSame g size old mid)
    (is : IsIn size s (g.seen old)) where
  abbrev Runs : Status → Type 0
  Runs status = RunsItem g size s item ends old new status ⊎ RunsShort g size s item old new status

  done_or_refused : (status : Status)
      → status ≡ ends
      → DoesItem g {A = Status} {E = Status} size item mid new (Ok status)
      → Runs status
  done_or_refused status so does =
      inl (runs_done g only_now size s item first (inl some) ends old mid new same is status so
      does)

  failed : (status : Status)
      → IsFailed status
      → DoesItem g {A = Status} {E = Status} size item mid new (Err status)
      → Runs status
  failed status by does =
      inl (runs_failed g only_now size s item first (inl some) ends old mid new same is status by
      kind does)

  pub runs_alone : (r : Result Device Status)
      → DoesItem g size item mid new (told_by r)
      → OnOk (told_by r) (status_in r ≡ ends)
      → IfErr r IsStop
      → (IsErrOf r NoMemory → LeavesShort g size item mid new)
      → Runs (status_in r)
  runs_alone (Ok d) does so stop short = done_or_refused Done so does
  runs_alone (Err Refused) does so stop short = done_or_refused Refused so does
  runs_alone (Err Disk) does so stop short = failed Disk (inl refl) does
  runs_alone (Err Port) does so stop short = failed Port (inr refl) does
  runs_alone (Err NoMemory) does so stop short =
      inr (runs_short g only_now size s item first (inl some) old mid new same is (short refl)
      NoMemory refl does)
  runs_alone (Err Done) does so stop short =
      not_stop Done (λ e. cc) (λ e. cc) (λ e. cc) (λ e. cc) stop
  runs_alone (Err Usage) does so stop short =
      not_stop Usage (λ e. cc) (λ e. cc) (λ e. cc) (λ e. cc) stop
  runs_alone (Err Malformed) does so stop short =
      not_stop Malformed (λ e. cc) (λ e. cc) (λ e. cc) (λ e. cc) stop
  runs_alone (Err NotADevice) does so stop short =
      not_stop NotADevice (λ e. cc) (λ e. cc) (λ e. cc) (λ e. cc) stop

-- ---- one act on a device that was opened

-- a run that ends for want of memory was refused it
pub wanted : (r : Result Device Status) → status_in r ≡ NoMemory → IsErrOf r NoMemory
wanted (Ok d) is = cc
wanted (Err s) is = ap Err is

module _ {D : Type 0} (g : Ghosts D) (d : Device) (c : Course) (old new : D)
    (r : Result Device Status)
    (p : Performs g d c old new r) where
  pub acted_words : status_in r ≡ Usage → ⊥
  acted_words = go r p.stop
    where
      go : (r : Result Device Status) → IfErr r IsStop → status_in r ≡ Usage → ⊥
      go (Ok d) stop is = cc
      go (Err s) stop is =
          not_stop s (λ e. let bad : Usage ≡ Refused = sym is ∙ e in cc)
          (λ e. let bad : Usage ≡ Disk = sym is ∙ e in cc)
          (λ e. let bad : Usage ≡ Port = sym is ∙ e in cc)
          (λ e. let bad : Usage ≡ NoMemory = sym is ∙ e in cc)
          stop

  pub acted_disk : status_in r ≡ Disk → DiskFailed (g.faults old) (g.faults new)
  acted_disk is = p.disk (go r is)
    where
      go : (r : Result Device Status) → status_in r ≡ Disk → IsErrOf r Disk
      go (Ok d) is = cc
      go (Err s) is = ap Err is

  pub acted_port : status_in r ≡ Port → SinkFailed (g.faults old) (g.faults new)
  acted_port is = p.port (go r is)
    where
      go : (r : Result Device Status) → status_in r ≡ Port → IsErrOf r Port
      go (Ok d) is = cc
      go (Err s) is = ap Err is

module _ {D : Type 0}
    (g : Ghosts D)
    (only_now : (d : D) (o : Outcome)
    → g.outcomes d (g.moment d) o
    → Leaves (g.told d) (g.may_leave d) o)
    (a : Act) (act : IsAct a) (d : Device) (s : Mounted)
    (old mid new : D) (r : Result Device Status)
    (same : MeansSame g (g.size old) old mid)
    (sized : g.size mid ≡ g.size old)
    (is : IsIn (g.size old) s (g.seen old))
    (represents : Represents d (g.size mid) (g.seen mid))
    (t : g.is_modelled)
    (p : PerformsActs g d (a ∷ []) mid new r) where
  abbrev size : ℕ
  size = g.size old

  kept_is : mounted_on d (g.seen mid) ≡ s
  kept_is =
      mounted_is d size (g.seen mid) s
      (subst (λ (n : ℕ). Represents d n (g.seen mid)) sized represents)
      (same.device ∙ is)

  course_is : course (a ∷ []) (mounted_on d (g.seen mid)) ≡ of_item (a.item s) (a.ends s)
  course_is =
      one_act a (mounted_on d (g.seen mid))
      ∙ ap (λ (m : Mounted). of_item (a.item m) (a.ends m)) kept_is

  alone : Performs g d (of_item (a.item s) (a.ends s)) mid new r
  alone = performs_as g d _ (of_item (a.item s) (a.ends s)) mid new r (λ t. course_is) p

  pub runs_act : RunsItem g size s (a.item s) (a.ends s) old new (status_in r)
      ⊎ RunsShort g size s (a.item s) old new (status_in r)
  runs_act =
      runs_alone g only_now size s (a.item s) (act.begins s) (act.some s) (a.ends s)
      (λ failed.
      ⊎_elim (λ done. not_failed (a.ends s) (subst Held (sym done) tt) failed)
      (λ refused. not_failed (a.ends s) (subst Held (sym refused) tt) failed)
      (act.ends s))
      old mid new same is r
      (subst (λ (n : ℕ). DoesItem g n (a.item s) mid new (told_by r)) sized
      (does_alone g d (a.item s) (a.ends s) mid new r alone t))
      (alone.ends t) alone.stop
      (λ memory.
      subst (λ (n : ℕ). LeavesShort g n (a.item s) mid new) sized
      (short_alone g d (a.item s) (a.ends s) mid new r alone t memory))

-- ---- a command

-- nothing in front of a line
pub front_none : (s : Mounted) (c : Command) → line_behind [] s c ≡ command_line s c
front_none s c = ap (λ (l : List ℕ). l ++ command_line s c) (go (effect_on s None c).reply)
  where
    go : (r : Reply) → unless_refused r [] ≡ []
    go replies.Done = refl
    go (replies.Booted slot) = refl
    go (replies.Bytes name) = refl
    go (replies.Digest sum) = refl
    go (replies.Left blocks) = refl
    go replies.Merged = refl
    go (replies.Refused refusal) = refl

told_closed : (d : Device) (reply : Reply) → told_by (closed_by d reply) ≡ Ok (reply_status reply)
told_closed d replies.Done = refl
told_closed d (replies.Booted slot) = refl
told_closed d (replies.Bytes name) = refl
told_closed d (replies.Digest sum) = refl
told_closed d (replies.Left blocks) = refl
told_closed d replies.Merged = refl
told_closed d (replies.Refused refusal) = refl

status_closed : (d : Device) (reply : Reply) → status_in (closed_by d reply) ≡ reply_status reply
status_closed d replies.Done = refl
status_closed d (replies.Booted slot) = refl
status_closed d (replies.Bytes name) = refl
status_closed d (replies.Digest sum) = refl
status_closed d (replies.Left blocks) = refl
status_closed d replies.Merged = refl
status_closed d (replies.Refused refusal) = refl

-- what holds of the device holds of the one that is answered
pub closed_ok : (d : Device) (reply : Reply) (P : Device → Type 0)
    → P d
    → IfOk (closed_by d reply) P
closed_ok d replies.Done P p = p
closed_ok d (replies.Booted slot) P p = p
closed_ok d (replies.Bytes name) P p = p
closed_ok d (replies.Digest sum) P p = p
closed_ok d (replies.Left blocks) P p = p
closed_ok d replies.Merged P p = p
closed_ok d (replies.Refused refusal) P p = tt

closed_stop : (d : Device) (reply : Reply) → IfErr (closed_by d reply) IsStop
closed_stop d replies.Done = tt
closed_stop d (replies.Booted slot) = tt
closed_stop d (replies.Bytes name) = tt
closed_stop d (replies.Digest sum) = tt
closed_stop d (replies.Left blocks) = tt
closed_stop d replies.Merged = tt
closed_stop d (replies.Refused refusal) = inl refl

-- it is refused at most
closed_not : (d : Device) (reply : Reply) (status : Status)
    → (status ≡ Refused → ⊥)
    → IsErrOf (closed_by d reply) status
    → ⊥
closed_not d replies.Done status other is = cc
closed_not d (replies.Booted slot) status other is = cc
closed_not d (replies.Bytes name) status other is = cc
closed_not d (replies.Digest sum) status other is = cc
closed_not d (replies.Left blocks) status other is = cc
closed_not d replies.Merged status other is = cc
closed_not d (replies.Refused refusal) status other is =
    let same : status ≡ Refused = cc in other same

module _ {D : Type 0} (g : Ghosts D) (d : Device) (c : Command) (verb : IsVerb c)
    (front : List ℕ) (old mid : D)
    (kept : IsDevice d (g.size old))
    (represents : g.is_modelled → Represents d (g.size old) (g.seen old)) where
  abbrev pub m : Mounted
  m = mounted_on d (g.seen old)

  abbrev pub item : Item Mounted
  item = (command_act front c).item m

  abbrev pub status : Status
  status = (command_act front c).ends m

  abbrev pub W : ℕ → List ℕ → Type 0
  W = IsOfCommand g.is_modelled d (g.seen old 4) c

  here : g.is_modelled → IsIn (g.size old) m (g.seen old)
  here t = device_stands d (g.size old) (g.seen old) (represents t)

  some : 0 < length (line_behind front m c)
  some = behind_some front m c

  as_act : (new : D) (r : Result Device Status)
      → Performs g d (of_item item status) old new r
      → PerformsActs g d (command_act front c ∷ []) old new r
  as_act new r p =
      performs_as g d (of_item item status) _ old new r
      (λ t. sym (one_act (command_act front c) m)) p

  -- the disk failed
  pub command_failed : (fault : DiskFault)
      → Does g d None c W old mid (Err fault)
      → PerformsActs g d (command_act front c ∷ []) old mid (Err Disk)
  command_failed fault does =
      as_act mid (Err Disk) (performs_item g d item status old mid (Err Disk) (record {
        size = does.quiet.size;
        kept = tt;
        geometry = tt;
        represents = λ t. tt;
        copies = λ t held. absurd held;
        ends_so = λ t. tt;
        does = λ t.
            command_fails g (g.size old) d c verb W m (line_behind front m c) some old mid refl
            (represents t) (here t) fault Disk does t;
        short = λ t memory. cc;
        changes = λ t.
            command_changes_all g d c old mid t kept (represents t) (does.touches t);
        quiet = λ t. record { left = does.quiet.left t; heard = does.quiet.heard t };
        stop = inr (inl (inl refl));
        steady = λ held. absurd held;
        disk = λ is. does.faults.cause;
        port = λ is. cc;
      }))

  -- its line is told, whole or in part
  module _ (d' : Device) (reply : Reply) (new : D)
      (done : Does g d None c W old mid (Ok (d', reply)))
      (sized : g.size new ≡ g.size mid) where
    changes : g.is_modelled
        → {A E : Type 0} (r : Result A E)
        → Says g (line_behind front m c) mid new r
        → ChangesAll g d old new
    changes t r says =
        changes_then g _ old mid new
        (command_changes_all g d c old mid t kept (represents t) (done.touches t))
        (changes_telling g _ _ mid new sized (λ t. says.seen) (λ t. says.crash)
        (λ t. says.time))

    quiet : g.is_modelled
        → {A E : Type 0} (r : Result A E)
        → Says g (line_behind front m c) mid new r
        → HearsNothing g old new
    quiet t r says = record {
      left = says.left ∙ done.quiet.left t;
      heard = says.heard ∙ done.quiet.heard t;
    }

    doing : g.is_modelled
        → {A E : Type 0} (r : Result A E)
        → Says g (line_behind front m c) mid new r
        → DoesItem g (g.size old) item old new r
    doing t r says =
        command_does g (g.size old) d c verb W m (line_behind front m c) some old mid refl
        (represents t) (here t) d' reply new r done t says

    -- the port failed
    pub command_broken : (g.is_modelled
        → Says g (line_behind front m c) mid new (let r : Result Status Status = Err Port in r))
        → SinkFailed (g.faults mid) (g.faults new)
        → PerformsActs g d (command_act front c ∷ []) old new (Err Port)
    command_broken says rose =
        as_act new (Err Port) (performs_item g d item status old new (Err Port) (record {
          size = sized ∙ done.quiet.size;
          kept = tt;
          geometry = tt;
          represents = λ t. tt;
          copies = λ t held. absurd held;
          ends_so = λ t. tt;
          does = λ t. doing t (Err Port) (says t);
          short = λ t memory. cc;
          changes = λ t. changes t (Err Port) (says t);
          quiet = λ t. quiet t (Err Port) (says t);
          stop = inr (inl (inr refl));
          steady = λ held. absurd held;
          disk = λ is. cc;
          port = λ is.
              subst (λ (f : Faults). SinkFailed f (g.faults new)) done.faults.steady rose;
        }))

    -- all is told
    pub command_closed : (g.is_modelled
        → Says g (line_behind front m c) mid new
        (let r : Result Status Status = Ok (reply_status reply) in r))
        → (g.is_modelled → reply_status reply ≡ status)
        → g.faults new ≡ g.faults mid
        → (g.is_modelled → g.seen new ≡ g.seen mid)
        → PerformsActs g d (command_act front c ∷ []) old new (closed_by d' reply)
    command_closed says ends faults seen =
        as_act new (closed_by d' reply)
        (performs_item g d item status old new (closed_by d' reply) (record {
          size = sized ∙ done.quiet.size;
          kept = closed_ok d' reply (λ x. IsDevice x (g.size old)) done.kept;
          geometry = closed_ok d' reply (λ x. x.geometry ≡ d.geometry) done.follows.geometry;
          represents = λ t.
              closed_ok d' reply (λ x. Represents x (g.size old) (g.seen new))
              (subst (λ (i : Image). Represents d' (g.size old) i) (sym (seen t))
              (done.represents t));
          copies = λ t held.
              copies_stay (g.size old) (g.seen mid) (g.seen new) (seen t)
              (both_copies d' (g.size old) (g.seen mid) (done.represents t));
          ends_so = λ t.
              subst
              (λ (r : Result Status Status). OnOk r (status_in (closed_by d' reply) ≡ status))
              (sym (told_closed d' reply)) (status_closed d' reply ∙ ends t);
          does = λ t.
              subst
              (λ (r : Result Status Status). DoesItem g (g.size old) item old new r)
              (sym (told_closed d' reply)) (doing t (Ok (reply_status reply)) (says t));
          short = λ t memory. absurd (closed_not d' reply NoMemory (λ e. cc) memory);
          changes = λ t. changes t (Ok (reply_status reply)) (says t);
          quiet = λ t. quiet t (Ok (reply_status reply)) (says t);
          stop = closed_stop d' reply;
          steady = λ held. faults ∙ done.faults.steady;
          disk = λ is. absurd (closed_not d' reply Disk (λ e. cc) is);
          port = λ is. absurd (closed_not d' reply Port (λ e. cc) is);
        }))

-- what is told behind a text
pub told_behind : (d : Device) (image : Image) (s : Mounted) (c : Command) (front : List ℕ)
    (current left : ℕ) (reply : Reply) (head out : List ℕ)
    → mounted_on d image ≡ s
    → current ≡ d.control.current
    → left ≡ count_at d.a + count_at d.b
    → reply ≡ (effect_on (mounted_on d image) None c).reply
    → head ≡ unless_refused reply front
    → out ≡ head ++ reply_line c current left reply
    → out ≡ line_behind front s c
told_behind d image s c front current left reply head out same here blocks replied' heads is =
    let text : reply_line c current left reply ≡ command_line s c =
    told_line d image s c current left reply (reply_line c current left reply) _ same here blocks
    replied' refl refl in
    is
    ∙ ap (λ (l : List ℕ). head ++ l) text
    ∙ ap (λ (l : List ℕ). l ++ command_line s c)
    (heads
    ∙ ap (λ (r : Reply). unless_refused r front)
    (replied' ∙ ap (λ (x : Mounted). (effect_on x None c).reply) same))
