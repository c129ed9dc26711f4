-- The verb `demo`, by what its parts do.
use Rattle.std.proofs.Common.{◌≡◌, ◌∙◌, ◌⊎◌, inl, inr, ⊎_elim, ℕ, ◌<◌, List, [], ◌∷◌, ◌++◌}
use Rattle.std.proofs.Common.{length, codes, decimal, true, Result, Ok, Err, Some, None, refl}
use Rattle.std.proofs.Common.{sym, ap, subst, arith, length-append, take}
use Rattle.std.specs.Prelude.{Option, IfErr, OnOk}
use Rattle.std.proofs.lemmas.Bool.{cases_Bool}
use Rattle.vab_disk.specs.declared.disk.Disk.{Ghosts}
use Rattle.vab_disk.specs.Disk.{Adds, Leaves, Outcome}
use Rattle.vab_disk.specs.Calls.{Changes, InSectors, IsAtRest, OnlyReads, Touches}
use Rattle.vab_disk.proofs.CallLaws.{changes_none, changes_telling, changes_then, changes_touches}
use Rattle.vab_disk.proofs.CallLaws.{reads_none}
use Rattle.vab_set.specs.declared.set.SetImage.{SetImage}
use Rattle.vab_device.specs.declared.device.Device.{Device}
use Rattle.vab_device.specs.Mounted.{Mounted, mounted_on}
use Rattle.vab_device.specs.Reading.{IsIn, Represents, version_at}
use Rattle.vab_marks.specs.declared.version.MarkVersion.TheVariants.{Two}
use Rattle.vab_model.specs.Effects.{IsOneOf}
use Rattle.vab_model.specs.Commands.{Boot, Mark, Digest, BeginMerge, Merge}
use Rattle.vab_make.specs.declared.fault.MakeFault.{MakeFault}
use Rattle.vab_make.specs.declared.fault.MakeFault.TheVariants as make
use Rattle.vab_make.specs.Made.{made_device_of, refusal_of}
use Rattle.vab_make.specs.Making.{Gives, IsMade, IsOfDisk, LeavesMaking}
use Rattle.vab_make.specs.Touched.{IsOfMaking}
use Rattle.vab_lines.specs.Lines.{made_line}
use Rattle.vab_commands.specs.Touched.{IsOfAll}
use Rattle.vab_recover.specs.Opening.{IsOfOpening, LeavesSame}
use Rattle.vab_update.specs.Install.{target_name}
use Rattle.vab_exchanges.specs.Items.{Item, joined}
use Rattle.vab_exchanges.specs.Runs.{CrashesWithin}
use Rattle.vab_exchanges.proofs.RunLaws.{IsChain, within_item}
use Rattle.vab_cli.specs.declared.status.Status.{Status}
use Rattle.vab_cli.specs.declared.status.Status.TheVariants.{Done, Usage, Malformed, Refused}
use Rattle.vab_cli.specs.declared.status.Status.TheVariants.{NotADevice, Disk, Port, NoMemory}
use Rattle.vab_cli.specs.Acts.{Act, Course, DoesActs, IsStop, LeavesAmong, Performs}
use Rattle.vab_cli.specs.Acts.{command_act, course, status_in, told_by}
use Rattle.vab_cli.specs.Codes.{make_status}
use Rattle.vab_cli.specs.Demo.{Demonstrates, digest_act, digest_front, life, life_of, orders_of}
use Rattle.vab_cli.specs.Demo.{take_over, update_orders}
use Rattle.vab_cli.specs.Installing.{left_behind}
use Rattle.vab_cli.specs.Opening.{Opens}
use Rattle.vab_cli.specs.Runs.{IsEarly, IsFailed, FailsMaking}
use Rattle.vab_cli.specs.Telling.{Tells}
use Rattle.vab_cli.specs.Touched.{IsOfMade}
use Rattle.vab_cli.specs.Verbs.{done_making, is_silent, make_line}
use Rattle.vab_cli.specs.Written.{WritesLife}
use Rattle.vab_update.specs.Orders.{Order}
use Rattle.vab_cli.proofs.Running.{untouched_stays}
use Rattle.vab_cli.proofs.Acting.{command_is_act, install_is_act, line_is_act, not_stop, wanted}
use Rattle.vab_cli.proofs.Courses.{AreActs, IsEnd, acts_chain, acts_end, are_both, are_mapped}
use Rattle.vab_cli.proofs.Courses.{are_same, performs_as}
use Rattle.vab_cli.proofs.FreshTouching.{made_opened, made_served, making_fresh}
use Rattle.vab_cli.proofs.ActsWritten.{writes_made}
use Rattle.vab_cli.proofs.Items.{mounted_is}
use Rattle.vab_cli.proofs.Lines.{current_is}
use Rattle.vab_cli.proofs.Makings.{early_silent, loud_refusal, memory_of_none, not_of_disk}
use Rattle.vab_cli.proofs.Makings.{refused_told, refused_unheard, silent_line, silent_memory}
use Rattle.vab_cli.proofs.Makings.{small_refused, status_not_port}
use Rattle.vab_cli.proofs.Sessions.{made_early, made_small, making_cuts, making_failed}
use Rattle.vab_cli.proofs.Sessions.{opening_failed, prepared}
use Rattle.vab_cli.proofs.Touching.{served_changes}
use Rattle.vab_cli.proofs.Writing.{changes_as}

-- ---- its acts

made_some : (images used cap : ℕ) → 0 < length (made_line images used cap)
unfolding made_line
made_some images used cap =
    omega (
      arith,
      length-append (codes "made ")
          (decimal images ++ codes " images, " ++ decimal used ++ codes " of " ++ decimal cap
          ++ codes " blocks\n"),
    )

life_is : (set next : List SetImage) (size left : ℕ)
    → AreActs (life (done_making set size) next left)
life_is set next size left = (
  line_is_act (done_making set size) (made_some _ _ _),
  (
    install_is_act next,
    are_both take_over _
        (command_is_act [] Boot, (command_is_act [] Mark, (command_is_act [] BeginMerge, tt)))
        (are_both _ _ (are_same _ (command_act [] (Merge 7)) (command_is_act [] (Merge 7)))
        (are_mapped digest_act next
        (λ image. command_is_act (digest_front image) (Digest (target_name 0 image))))),
  ),
)

-- ---- what a run of acts leaves

chain_behind : (done : List (Item Mounted)) (i : Item Mounted) (later : List (Item Mounted))
    (s : Mounted)
    → IsChain [] s [] (done ++ i ∷ later)
    → IsChain [] i.last.now [] later
chain_behind [] i later s chain = chain.2
chain_behind (x ∷ xs) i later s chain = chain_behind xs i later x.last.now chain.2

among_within : (size : ℕ) (first : Mounted) (items : List (Item Mounted)) (told : List ℕ)
    (o : Outcome)
    → IsChain [] first [] items
    → LeavesAmong size items told o
    → CrashesWithin (IsIn size) [] first items [] told o
among_within size first items told o chain l =
    subst (λ (x : List (Item Mounted)). CrashesWithin (IsIn size) [] first x [] told o) (sym l.are)
    (within_item (IsIn size) [] [] first l.done l.later l.item told (told ++ joined l.done)
    (chain_behind l.done l.item l.later first (subst (IsChain [] first []) l.are chain))
    refl o l.leaves)

-- it ends as they do only where the last line is told
closed_is : (r : Result Device Status) (ends : Status) (P : Type 0)
    → IsEnd ends
    → IfErr r IsStop
    → status_in r ≡ ends
    → OnOk (told_by r) P
    → P
closed_is (Ok d) ends P end stop same p = p
closed_is (Err Refused) ends P end stop same p = p
closed_is (Err Disk) ends P end stop same p =
    ⊎_elim (λ e. let bad : Disk ≡ Done = same ∙ e in cc)
    (λ e. let bad : Disk ≡ Refused = same ∙ e in cc) end
closed_is (Err Port) ends P end stop same p =
    ⊎_elim (λ e. let bad : Port ≡ Done = same ∙ e in cc)
    (λ e. let bad : Port ≡ Refused = same ∙ e in cc) end
closed_is (Err NoMemory) ends P end stop same p =
    ⊎_elim (λ e. let bad : NoMemory ≡ Done = same ∙ e in cc)
    (λ e. let bad : NoMemory ≡ Refused = same ∙ e in cc) end
closed_is (Err Done) ends P end stop same p =
    not_stop Done (λ e. cc) (λ e. cc) (λ e. cc) (λ e. cc) stop
closed_is (Err Usage) ends P end stop same p =
    not_stop Usage (λ e. cc) (λ e. cc) (λ e. cc) (λ e. cc) stop
closed_is (Err Malformed) ends P end stop same p =
    not_stop Malformed (λ e. cc) (λ e. cc) (λ e. cc) (λ e. cc) stop
closed_is (Err NotADevice) ends P end stop same p =
    not_stop NotADevice (λ e. cc) (λ e. cc) (λ e. cc) (λ e. cc) stop

-- how it ends
ends_are : (r : Result Device Status) (ends : Status)
    → IfErr r IsStop
    → OnOk (told_by r) (status_in r ≡ ends)
    → (status_in r ≡ ends) ⊎ (IsFailed (status_in r) ⊎ (status_in r ≡ NoMemory))
ends_are (Ok d) ends stop is = inl is
ends_are (Err Refused) ends stop is = inl is
ends_are (Err Disk) ends stop is = inr (inl (inl refl))
ends_are (Err Port) ends stop is = inr (inl (inr refl))
ends_are (Err NoMemory) ends stop is = inr (inr refl)
ends_are (Err Done) ends stop is = not_stop Done (λ e. cc) (λ e. cc) (λ e. cc) (λ e. cc) stop
ends_are (Err Usage) ends stop is = not_stop Usage (λ e. cc) (λ e. cc) (λ e. cc) (λ e. cc) stop
ends_are (Err Malformed) ends stop is =
    not_stop Malformed (λ e. cc) (λ e. cc) (λ e. cc) (λ e. cc) stop
ends_are (Err NotADevice) ends stop is =
    not_stop NotADevice (λ e. cc) (λ e. cc) (λ e. cc) (λ e. cc) stop

-- ---- the verb

module _ {D : Type 0}
    (g : Ghosts D)
    (only_now : (d : D) (o : Outcome)
    → g.outcomes d (g.moment d) o
    → Leaves (g.told d) (g.may_leave d) o)
    (set next : List SetImage)
    (old : D) where
  abbrev size : ℕ
  size = g.size old

  abbrev first : Mounted
  first = made_device_of set 0 65536 size

  abbrev Making : D → Type 0
  Making mid = IsAtRest g old
      → Adds g.moment g.outcomes old mid
      (LeavesMaking (g.told old) set 0 65536 size (g.seen old))

  abbrev Makes : D → Type 0
  Makes mid = Touches g (InSectors (IsOfMaking set 65536)) old mid

  making_made : (mid : D) → Makes mid → Changes g (IsOfMade set IsOfAll size) old mid
  making_made mid makes =
      making_fresh g set size IsOfAll old mid (changes_touches g _ old mid makes)

  -- what making may write
  abbrev Fresh : ℕ → List ℕ → Type 0
  Fresh = InSectors (IsOfMaking set 65536)

  -- memory was refused before anything was done
  pub demo_short : Demonstrates g set next old old NoMemory
  demo_short = record {
    runs = λ t. record {
      lives = λ none.
          inr (making_failed g only_now size 0 set 0 65536 old old NoMemory (inr refl) refl
          (λ memory. inl (untouched_stays g only_now size old old refl))
          (λ rest. record {
            later = omega arith;
            keeps = λ t o before there. there;
            adds = λ t o before there. inl there;
          }));
      refused = λ fault is. let reads = reads_none g old in
          refused_unheard g only_now size (make_line fault) (make_status fault) old old NoMemory
          refl refl (reads.time t) (silent_line fault)
          (λ port. absurd (status_not_port fault port)) (inr (inr refl));
    };
    writes = λ t. record {
      touches = changes_none g _ old;
      in_turn = inr (changes_as g Fresh old old t (changes_none g Fresh old));
    };
    small = λ less. inr (inr refl);
    quiet = λ t. record { left = refl; heard = refl };
  }

  -- it isn't made
  pub demo_unmade : (f : MakeFault) (mid new : D) (status : Status)
      → Gives {A = Unit {0}} (Err f) (refusal_of set 0 65536 size)
      → ((IsOfDisk f → ⊥) → mid ≡ old)
      → Makes mid
      → (g.is_modelled → Making mid)
      → (g.is_modelled → Tells g (make_line f) (make_status f) mid new status)
      → g.size new ≡ g.size mid
      → (is_silent f ≡ true → (new ≡ mid) × (status ≡ make_status f))
      → (status ≡ make_status f) ⊎ (status ≡ Port)
      → Demonstrates g set next old new status
  demo_unmade f mid new status gives untouched makes making tells sized silent either = record {
    runs = λ t. record {
      lives = λ none. let free : Gives {A = Unit {0}} (Err f) None =
          subst (λ (said : Option MakeFault). Gives {A = Unit {0}} (Err f) said) none gives in
          let same = silent (early_silent f free) in
          let early : IsEarly status = subst IsEarly (sym same.1) (made_early f free) in
          inr (subst (λ (x : D). FailsMaking g size set 0 65536 old x status) (sym same.0)
          (making_failed g only_now size 0 set 0 65536 old mid status early (makes.quiet.told t)
          (λ memory.
          inl (untouched_stays g only_now size old mid
          (untouched (memory_of_none f (sym same.1 ∙ memory)))))
          (making t)));
      refused = λ fault is. let by : Gives {A = Unit {0}} (Err f) (Some fault) =
          subst (λ (said : Option MakeFault). Gives {A = Unit {0}} (Err f) said) is gives in
          let before : mid ≡ old = untouched (not_of_disk f fault by) in
          elim (cases_Bool (is_silent f)) [
            | inl quiet ↦
                let same = silent quiet in
                let reads = subst (λ (x : D). OnlyReads g old x) (sym (same.0 ∙ before))
                (reads_none g old) in
                refused_unheard g only_now size (make_line fault) (make_status fault) old new status
                (reads.quiet.told t) (reads.seen t) (reads.time t) (silent_line fault)
                (λ port. absurd (status_not_port fault port))
                (inr (inr (same.1 ∙ silent_memory f fault by quiet)))
            | inr loud ↦
                let same : f ≡ fault = loud_refusal f fault by loud in
                let reads = subst (λ (x : D). OnlyReads g old x) (sym before) (reads_none g old) in
                refused_told g only_now size (make_line fault) (make_status fault) old mid new
                status (makes.quiet.told t) (reads.seen t) (reads.crash t) (reads.time t)
                (silent_line fault) (λ port. cc)
                (subst (λ (x : MakeFault). (status ≡ make_status x) ⊎ (status ≡ Port)) same either)
                (subst
                (λ (x : MakeFault). Tells g (make_line x) (make_status x) mid new status) same
                (tells t))
          ];
    };
    writes = λ t. record {
      touches = let told = tells t in
          changes_then g _ old mid new (making_made mid makes)
          (changes_telling g _ _ mid new sized (λ t. told.seen) (λ t. told.crash)
          (λ t. told.time));
      in_turn = let told = tells t in
          inr (changes_as g Fresh old new t
          (changes_then g Fresh old mid new (changes_touches g Fresh old mid makes)
          (changes_telling g _ _ mid new sized (λ t. told.seen) (λ t. told.crash)
          (λ t. told.time))));
    };
    small = λ less.
        let by : Gives {A = Unit {0}} (Err f) (Some (make.TooSmall 6152 size)) =
        subst (λ (said : Option MakeFault). Gives {A = Unit {0}} (Err f) said)
        (small_refused set 0 65536 size less) gives in
        ⊎_elim
        (λ is.
        ⊎_elim (λ none. inl (is ∙ none)) (λ memory. inr (inr (is ∙ memory)))
        (made_small f 6152 size by))
        (λ port. inr (inl port)) either;
    quiet = λ t.
        let told = tells t in
        record {
          left = told.left ∙ makes.quiet.left t;
          heard = told.heard ∙ makes.quiet.heard t;
        };
  }

  -- it is made
  module _ (mid : D)
      (gives : Gives {A = Unit {0}} (Ok tt) (refusal_of set 0 65536 size))
      (makes : Makes mid)
      (made : g.is_modelled → IsMade set 0 65536 size (g.seen mid))
      (version : g.is_modelled → version_at (g.seen mid) ≡ Two)
      (rest : g.is_modelled → IsAtRest g mid)
      (making : g.is_modelled → Making mid) where
    not_refused : {R : Type 0} (fault : MakeFault) → refusal_of set 0 65536 size ≡ Some fault → R
    not_refused fault is = let none = sym gives ∙ is in cc

    opens_there : (now : D)
        → Touches g (IsOfOpening (g.size mid) (g.seen mid)) mid now
        → Changes g (IsOfOpening size (g.seen mid)) mid now
    opens_there now opens =
        subst (λ (n : ℕ). Changes g (IsOfOpening n (g.seen mid)) mid now) makes.quiet.size
        (changes_touches g _ mid now opens)

    -- opening writes what making may
    fresh_opened : g.is_modelled
        → (now : D)
        → Touches g (IsOfOpening (g.size mid) (g.seen mid)) mid now
        → Changes g Fresh old now
    fresh_opened t now opens =
        made_opened g set size old mid now (made t) (version t)
        (changes_touches g _ old mid makes) (opens_there now opens)

    record Unheard (now : D) : Type 0 where
      told : g.told now ≡ g.told mid
      left : g.input_left now ≡ g.input_left mid
      heard : g.heard now ≡ g.heard mid

    quiet_there : g.is_modelled
        → (now : D)
        → Touches g (IsOfOpening (g.size mid) (g.seen mid)) mid now
        → Unheard now
    quiet_there t now opens = record {
      told = opens.quiet.told t;
      left = opens.quiet.left t;
      heard = opens.quiet.heard t;
    }

    -- but can't be opened
    pub demo_unopened : (now : D) (status : Status)
        → (g.is_modelled → IsEarly status)
        → (g.is_modelled → status ≡ NoMemory → g.seen now ≡ g.seen mid)
        → (g.is_modelled → Touches g (IsOfOpening (g.size mid) (g.seen mid)) mid now)
        → (g.is_modelled
        → IsAtRest g mid
        → Adds g.moment g.outcomes mid now (LeavesSame (g.told mid) (g.size mid) (g.seen mid)))
        → Demonstrates g set next old now status
    demo_unopened now status early unwritten opens time = record {
      runs = λ t. record {
        lives = λ none.
            inr (opening_failed g only_now size 0 set 0 65536 old mid now status (early t)
            (makes.quiet.told t) (quiet_there t now (opens t)).told (unwritten t)
            (made t) (rest t) (making t)
            (subst
            (λ (n : ℕ).
            IsAtRest g mid
            → Adds g.moment g.outcomes mid now (LeavesSame (g.told mid) n (g.seen mid)))
            makes.quiet.size (time t)));
        refused = λ fault is. not_refused fault is;
      };
      writes = λ t. record {
        touches = making_fresh g set size IsOfAll old now (fresh_opened t now (opens t));
        in_turn = inr (changes_as g Fresh old now t (fresh_opened t now (opens t)));
      };
      small = λ less.
          not_refused (make.TooSmall 6152 size) (small_refused set 0 65536 size less);
      quiet = λ t. record {
        left = (quiet_there t now (opens t)).left ∙ makes.quiet.left t;
        heard = (quiet_there t now (opens t)).heard ∙ makes.quiet.heard t;
      };
    }

    -- and is opened, and lives
    module _ (d : Device) (now new : D) (r : Result Device Status)
        (opens : g.is_modelled → Touches g (IsOfOpening (g.size mid) (g.seen mid)) mid now)
        (opened : g.is_modelled → Opens g size mid now)
        (represents : g.is_modelled → Represents d size (g.seen now))
        (sized : g.size now ≡ size)
        (p : DoesActs g d
        (life (done_making set (g.size now)) next
        (left_behind (mounted_on d (g.seen now)) next))
        (update_orders d.control.current next (left_behind (mounted_on d (g.seen now)) next))
        now new r) where
      abbrev c : Course
      c = life_of set next size

      abbrev acts : List Act
      acts = life (done_making set size) next (left_behind first next)

      there : g.is_modelled → IsIn size first (g.seen now)
      there t = (let by = opened t in by.device) ∙ made t

      first_is : g.is_modelled → mounted_on d (g.seen now) ≡ first
      first_is t = mounted_is d size (g.seen now) first (represents t) (there t)

      course_is : g.is_modelled
          → course
          (life (done_making set (g.size now)) next
          (left_behind (mounted_on d (g.seen now)) next))
          (mounted_on d (g.seen now))
          ≡ c
      course_is t =
          let same = first_is t in
          λ i. course (life (done_making set (sized i)) next (left_behind (same i) next)) (same i)

      lived : Performs g d c now new r
      lived = performs_as g d _ c now new r course_is p.performs

      orders_are : g.is_modelled
          → update_orders d.control.current next (left_behind (mounted_on d (g.seen now)) next)
          ≡ orders_of set next size
      orders_are t =
          let same = first_is t in
          let current : d.control.current ≡ first.state.control.current =
          sym (current_is d (g.seen now))
          ∙ ap (λ (m : Mounted). m.state.control.current) same in
          λ i. update_orders (current i) next (left_behind (same i) next)

      end : IsEnd c.ends
      end = acts_end acts first (life_is set next size (left_behind first next))

      chain : IsChain [] first [] c.items
      chain = acts_chain acts first (life_is set next size (left_behind first next))

      told_now : g.is_modelled → g.told now ≡ g.told old
      told_now t = (let by = opened t in by.told) ∙ makes.quiet.told t

      every_cut : g.is_modelled
          → IsAtRest g old
          → (o : Outcome)
          → g.outcomes new (g.moment old) o
          → CrashesWithin (IsIn size) [] first c.items [] (g.told old) o
          ⊎ LeavesMaking (g.told old) set 0 65536 size (g.seen old) o
      every_cut t before o at =
          let by = opened t in
          let earlier = prepared g only_now size 0 set 0 65536 old mid now (makes.quiet.told t)
          (made t) (making t before) (by.time (rest t)) in
          let time = lived.time t (by.settled (rest t)) in
          ⊎_elim
          (λ was. inr (making_cuts g only_now size 0 set 0 65536 old now earlier before o was))
          (λ since.
          inl (among_within size first c.items (g.told old) o chain
          (subst (λ (l : List ℕ). LeavesAmong size c.items l o) (told_now t)
          (subst (λ (n : ℕ). LeavesAmong n c.items (g.told now) o) sized since))))
          (time.adds (g.moment old) o earlier.later at)

      pub demo_lives : Demonstrates g set next old new (status_in r)
      demo_lives = record {
        runs = λ t. record {
          lives = λ none. inl (record {
            status_is = ends_are r c.ends lived.stop (lived.ends t);
            items = record {
              front =
                  (let front = lived.front t in (
                    front.0,
                    front.1
                        ∙ ap (λ (l : List ℕ). l ++ take front.0 (joined c.items)) (told_now t),
                  ));
              whole = λ same.
                  closed_is r c.ends _ end lived.stop same (lived.told t)
                  ∙ ap (λ (l : List ℕ). l ++ joined c.items) (told_now t);
              stands = λ same.
                  subst (λ (n : ℕ). IsIn n c.last (g.seen new)) sized
                  (closed_is r c.ends _ end lived.stop same (lived.stands t));
              settled = λ before same.
                  closed_is r c.ends _ end lived.stop same
                  (lived.rest t ((let by = opened t in by.settled) (rest t)));
              every_cut = every_cut t;
            };
            short = λ memory.
                let s = lived.short t (wanted r memory) in
                record {
                  done = s.done;
                  item = s.item;
                  later = s.later;
                  are = s.are;
                  told = s.told ∙ ap (λ (l : List ℕ). l ++ joined s.done) (told_now t);
                  step =
                      subst
                      (λ (n : ℕ).
                      (m : Mounted) × IsOneOf s.item.steps m × IsIn n m (g.seen new))
                      sized s.step;
                  settled = λ before.
                      s.settled ((let by = opened t in by.settled) (rest t));
                };
          });
          refused = λ fault is. not_refused fault is;
        };
        writes = λ t. record {
          touches = made_served g set size IsOfAll old mid new (made t) (version t)
              (changes_touches g _ old mid makes)
              (served_changes g size IsOfAll d mid now new t (represents t)
              (opens_there now (opens t))
              (lived.changes t));
          in_turn = subst
              (λ (l : List Order). WritesLife g Fresh size first l old new)
              (orders_are t)
              (writes_made g Fresh size d first _ old now new t sized (represents t) (first_is t)
              (fresh_opened t now (opens t))
              (λ before. (let by = opened t in by.settled) (rest t))
              (let wrote = p.writes t in wrote.all));
        };
        small = λ less.
            not_refused (make.TooSmall 6152 size) (small_refused set 0 65536 size less);
        quiet = λ t.
            let lives = lived.quiet t in
            record {
              left = lives.left ∙ (quiet_there t now (opens t)).left ∙ makes.quiet.left t;
              heard = lives.heard ∙ (quiet_there t now (opens t)).heard ∙ makes.quiet.heard t;
            };
      }
