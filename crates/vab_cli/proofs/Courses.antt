-- What comes of acts on a device, one behind another.
use Rattle.std.proofs.Common.{◌≡◌, ◌∙◌, ◌⊎◌, inl, inr, ℕ, ◌<◌, ◌+◌, min, List, [], ◌∷◌, ◌++◌}
use Rattle.std.proofs.Common.{length, take, Result, Ok, Err, refl, sym, ap, subst, arith}
use Rattle.std.proofs.Common.{append_assoc}
use Rattle.std.specs.Prelude.{IfOk, OnOk}
use Rattle.std.proofs.Common.{◌≤◌, zero, suc, map, drop, get_or, replicate, add-one}
use Rattle.std.proofs.lemmas.List.{append-nil, map-append, replicate-append-replicate, take_all}
use Rattle.std.proofs.lemmas.List.{take-append-drop, take-append-le, take_min}
use Rattle.vab_set.specs.declared.set.SetImage.{SetImage}
use Rattle.std.proofs.Math.Seq.{take-append-add}
use Rattle.vab_disk.specs.declared.disk.Disk.{Ghosts}
use Rattle.vab_disk.specs.Disk.{Outcome, Adds, Faults, DiskFailed, SinkFailed}
use Rattle.vab_disk.specs.Calls.{IsAtRest}
use Rattle.vab_disk.proofs.CallLaws.{changes_none}
use Rattle.vab_disk.proofs.Moments.{adds_on, adds_wider}
use Rattle.vab_device.specs.declared.device.Device.{Device}
use Rattle.vab_device.specs.Kept.{IsDevice}
use Rattle.vab_device.specs.Mounted.{Mounted, mounted_on}
use Rattle.vab_device.specs.Reading.{IsIn, Represents}
use Rattle.vab_device.proofs.ReadingLaws.{device_stands}
use Rattle.vab_model.specs.Effects.{IsOneOf}
use Rattle.vab_commands.specs.Copies.{HasBothCopies}
use Rattle.vab_commands.proofs.CopiesLaws.{both_copies}
use Rattle.vab_commands.proofs.ChangeLaws.{all_then}
use Rattle.vab_exchanges.specs.Items.{Item, joined}
use Rattle.vab_exchanges.specs.Runs.{LeavesItem}
use Rattle.vab_exchanges.proofs.RunLaws.{HasAll, IsChain, closes, joined_append}
use Rattle.vab_cli.specs.declared.status.Status.{Status}
use Rattle.vab_cli.specs.declared.status.Status.TheVariants.{Done, Usage, Malformed, Refused}
use Rattle.vab_cli.specs.declared.status.Status.TheVariants.{NotADevice, Disk, Port, NoMemory}
use Rattle.vab_cli.specs.Acts.{Act, Course, course, followed, told_by, status_in}
use Rattle.vab_cli.specs.Acts.{LeavesAmong, StopsAmong, Performs, PerformsActs}
use Rattle.vab_cli.proofs.Items.{mounted_is}

-- ---- courses

-- what comes of one act
abbrev pub of_item : Item Mounted → Status → Course
of_item item ends = record { items = item ∷ []; last = item.last.now; ends = ends }

pub one_act : (a : Act) (m : Mounted) → course (a ∷ []) m ≡ of_item (a.item m) (a.ends m)
unfolding course
one_act a m = go (a.ends m)
  where
    none : Course
    none = record { items = []; last = (a.item m).last.now; ends = Done }

    go : (s : Status) → followed (a.item m) s none ≡ of_item (a.item m) s
    go Done = refl
    go Usage = refl
    go Malformed = refl
    go Refused = refl
    go NotADevice = refl
    go Disk = refl
    go Port = refl
    go NoMemory = refl

-- what comes of the one behind the other, which is done
abbrev pub behind : Course → Course → Course
behind b c = record { items = b.items ++ c.items; last = c.last; ends = c.ends }

followed_behind : (i : Item Mounted) (s : Status) (few all : Course) (others : Mounted → Course)
    → (few.ends ≡ Done → all ≡ behind few (others few.last))
    → (followed i s few).ends ≡ Done
    → followed i s all ≡ behind (followed i s few) (others (followed i s few).last)
followed_behind i Done few all others later done = ap (followed i Done) (later done)
followed_behind i Usage few all others later done = cc
followed_behind i Malformed few all others later done = cc
followed_behind i Refused few all others later done = cc
followed_behind i NotADevice few all others later done = cc
followed_behind i Disk few all others later done = cc
followed_behind i Port few all others later done = cc
followed_behind i NoMemory few all others later done = cc

pub acts_behind : (xs ys : List Act) (m : Mounted)
    → (course xs m).ends ≡ Done
    → course (xs ++ ys) m ≡ behind (course xs m) (course ys (course xs m).last)
unfolding course
acts_behind [] ys m done = refl
acts_behind (a ∷ xs) ys m done =
    let next = (a.item m).last.now in
    followed_behind (a.item m) (a.ends m) (course xs next) (course (xs ++ ys) next) (course ys)
    (acts_behind xs ys next) done

-- acts behind one that isn't done change nothing
followed_ended : (i : Item Mounted) (s : Status) (few all : Course)
    → ((few.ends ≡ Done → ⊥) → all ≡ few)
    → ((followed i s few).ends ≡ Done → ⊥)
    → followed i s all ≡ followed i s few
followed_ended i Done few all later other = ap (followed i Done) (later other)
followed_ended i Usage few all later other = refl
followed_ended i Malformed few all later other = refl
followed_ended i Refused few all later other = refl
followed_ended i NotADevice few all later other = refl
followed_ended i Disk few all later other = refl
followed_ended i Port few all later other = refl
followed_ended i NoMemory few all later other = refl

pub acts_ended : (xs ys : List Act) (m : Mounted)
    → ((course xs m).ends ≡ Done → ⊥)
    → course (xs ++ ys) m ≡ course xs m
unfolding course
acts_ended [] ys m other = absurd (other refl)
acts_ended (a ∷ xs) ys m other =
    let next = (a.item m).last.now in
    followed_ended (a.item m) (a.ends m) (course xs next) (course (xs ++ ys) next)
    (acts_ended xs ys next) other

-- the items of the first ones come first
abbrev More : Course → Course → Type 0
More all few = (more : List (Item Mounted)) × (all.items ≡ few.items ++ more)

followed_more : (i : Item Mounted) (s : Status) (few all : Course)
    → More all few
    → More (followed i s all) (followed i s few)
followed_more i Done few all later =
    (later.0, ap (λ (l : List (Item Mounted)). i ∷ l) later.1)
followed_more i Usage few all later = ([], refl)
followed_more i Malformed few all later = ([], refl)
followed_more i Refused few all later = ([], refl)
followed_more i NotADevice few all later = ([], refl)
followed_more i Disk few all later = ([], refl)
followed_more i Port few all later = ([], refl)
followed_more i NoMemory few all later = ([], refl)

acts_more : (xs ys : List Act) (m : Mounted) → More (course (xs ++ ys) m) (course xs m)
unfolding course
acts_more [] ys m = ((course ys m).items, refl)
acts_more (a ∷ xs) ys m =
    let next = (a.item m).last.now in
    followed_more (a.item m) (a.ends m) (course xs next) (course (xs ++ ys) next)
    (acts_more xs ys next)

-- ---- chains

-- its item begins at the device that it comes to, something is told of it, and it is done or
-- refused
pub record IsAct (a : Act) : Type 0 where
  pub begins : (m : Mounted) → IsOneOf (a.item m).steps m
  pub some : (m : Mounted) → 0 < length (a.item m).reply
  pub ends : (m : Mounted) → (a.ends m ≡ Done) ⊎ (a.ends m ≡ Refused)

abbrev pub AreActs : List Act → Type 0
AreActs [] = Unit {0}
AreActs (a ∷ xs) = IsAct a × AreActs xs

-- an item begins with the device before it
begins_there : (m : Mounted) (i : Item Mounted) → IsOneOf i.steps m → HasAll (m ∷ []) i.steps
begins_there m i at x (inl same) = subst (IsOneOf i.steps) (sym same) at
begins_there m i at x (inr none) = absurd none

followed_chain : (m : Mounted) (i : Item Mounted) (s : Status) (rest : Course)
    → IsOneOf i.steps m
    → 0 < length i.reply
    → IsChain [] i.last.now [] rest.items
    → IsChain [] m [] (followed i s rest).items
followed_chain m i Done rest begins some later = (begins_there m i begins, some, later)
followed_chain m i _ rest begins some later =
    (begins_there m i begins, some, closes [] i.last.now)

pub acts_chain : (xs : List Act) (m : Mounted) → AreActs xs → IsChain [] m [] (course xs m).items
unfolding course
acts_chain [] m are = closes [] m
acts_chain (a ∷ xs) m are =
    let first : IsAct a = are.0 in
    let next = (a.item m).last.now in
    followed_chain m (a.item m) (a.ends m) (course xs next) (first.begins m) (first.some m)
    (acts_chain xs next are.1)

-- all are done, or one is refused
abbrev pub IsEnd : Status → Type 0
IsEnd s = (s ≡ Done) ⊎ (s ≡ Refused)

followed_end : (i : Item Mounted) (s : Status) (rest : Course)
    → IsEnd s
    → IsEnd rest.ends
    → IsEnd (followed i s rest).ends
followed_end i Done rest is later = later
followed_end i Usage rest is later = is
followed_end i Malformed rest is later = is
followed_end i Refused rest is later = is
followed_end i NotADevice rest is later = is
followed_end i Disk rest is later = is
followed_end i Port rest is later = is
followed_end i NoMemory rest is later = is

pub acts_end : (xs : List Act) (m : Mounted) → AreActs xs → IsEnd (course xs m).ends
unfolding course
acts_end [] m are = inl refl
acts_end (a ∷ xs) m are =
    let first : IsAct a = are.0 in
    let next = (a.item m).last.now in
    followed_end (a.item m) (a.ends m) (course xs next) (first.ends m) (acts_end xs next are.1)

pub are_same : (n : ℕ) (a : Act) → IsAct a → AreActs (replicate n a)
are_same zero a is = tt
are_same (suc n) a is = (is, are_same n a is)

pub are_mapped : (f : SetImage → Act) (set : List SetImage)
    → ((image : SetImage) → IsAct (f image))
    → AreActs (map f set)
are_mapped f [] are = tt
are_mapped f (image ∷ set) are = (are image, are_mapped f set are)

pub are_both : (xs ys : List Act) → AreActs xs → AreActs ys → AreActs (xs ++ ys)
are_both [] ys are others = others
are_both (a ∷ xs) ys are others = (are.0, are_both xs ys are.1 others)

-- ---- what was told and left among items

-- a front of what is told of some items is one of what is told of more
front_before : (few more all : List (Item Mounted)) (told now : List ℕ)
    → all ≡ few ++ more
    → (n : ℕ) × (now ≡ told ++ take n (joined few))
    → (n : ℕ) × (now ≡ told ++ take n (joined all))
front_before few more all told now is front =
    let n = min front.0 (length (joined few)) in (
      n,
      front.1
          ∙ ap (λ (l : List ℕ). told ++ l)
          (sym (take_min front.0 (joined few))
          ∙ sym (take-append-le n (joined few) (joined more) (omega arith))
          ∙ ap (take n) (sym (joined_append (IsIn 0) few more) ∙ ap joined (sym is))),
    )

-- and behind items that are told whole
front_behind : (done more all : List (Item Mounted)) (told mid now : List ℕ)
    → all ≡ done ++ more
    → mid ≡ told ++ joined done
    → (n : ℕ) × (now ≡ mid ++ take n (joined more))
    → (n : ℕ) × (now ≡ told ++ take n (joined all))
front_behind done more all told mid now is so_far front =
    let n = front.0 in (
      length (joined done) + n,
      front.1
          ∙ ap (λ (l : List ℕ). l ++ take n (joined more)) so_far
          ∙ append_assoc told (joined done) (take n (joined more))
          ∙ ap (λ (l : List ℕ). told ++ l)
          (sym (take-append-add (joined done) (joined more) n)
          ∙ ap (take (length (joined done) + n))
          (sym (joined_append (IsIn 0) done more) ∙ ap joined (sym is))),
    )

leaves_before : (size : ℕ) (few more all : List (Item Mounted)) (told : List ℕ) (o : Outcome)
    → all ≡ few ++ more
    → LeavesAmong size few told o
    → LeavesAmong size all told o
leaves_before size few more all told o is l = record {
  done = l.done;
  item = l.item;
  later = l.later ++ more;
  are =
      is ∙ ap (λ (x : List (Item Mounted)). x ++ more) l.are
      ∙ append_assoc l.done (l.item ∷ l.later) more;
  leaves = l.leaves;
}

leaves_behind : (size : ℕ) (before more all : List (Item Mounted)) (told mid : List ℕ)
    (o : Outcome)
    → all ≡ before ++ more
    → mid ≡ told ++ joined before
    → LeavesAmong size more mid o
    → LeavesAmong size all told o
leaves_behind size before more all told mid o is so_far l = record {
  done = before ++ l.done;
  item = l.item;
  later = l.later;
  are =
      is ∙ ap (λ (x : List (Item Mounted)). before ++ x) l.are
      ∙ sym (append_assoc before l.done (l.item ∷ l.later));
  leaves =
      subst (λ (x : List ℕ). LeavesItem (IsIn size) x l.item o)
      (ap (λ (x : List ℕ). x ++ joined l.done) so_far
      ∙ append_assoc told (joined before) (joined l.done)
      ∙ ap (λ (x : List ℕ). told ++ x) (sym (joined_append (IsIn size) before l.done)))
      l.leaves;
}

module _ {D : Type 0} (g : Ghosts D) (size : ℕ) where
  stops_before : (few more all : List (Item Mounted)) (old new : D)
      → all ≡ few ++ more
      → StopsAmong g size few old new
      → StopsAmong g size all old new
  stops_before few more all old new is s = record {
    done = s.done;
    item = s.item;
    later = s.later ++ more;
    are =
        is ∙ ap (λ (x : List (Item Mounted)). x ++ more) s.are
        ∙ append_assoc s.done (s.item ∷ s.later) more;
    told = s.told;
    step = s.step;
    settled = s.settled;
  }

  stops_behind : (before more all : List (Item Mounted)) (old mid new : D)
      → all ≡ before ++ more
      → g.told mid ≡ g.told old ++ joined before
      → (IsAtRest g old → IsAtRest g mid)
      → StopsAmong g size more mid new
      → StopsAmong g size all old new
  stops_behind before more all old mid new is so_far rests s = record {
    done = before ++ s.done;
    item = s.item;
    later = s.later;
    are =
        is ∙ ap (λ (x : List (Item Mounted)). before ++ x) s.are
        ∙ sym (append_assoc before s.done (s.item ∷ s.later));
    told =
        s.told
        ∙ ap (λ (x : List ℕ). x ++ joined s.done) so_far
        ∙ append_assoc (g.told old) (joined before) (joined s.done)
        ∙ ap (λ (x : List ℕ). g.told old ++ x) (sym (joined_append (IsIn size) before s.done));
    step = s.step;
    settled = λ rest. s.settled (rests rest);
  }

-- ---- what is said where the last line is told

pub told_map : (r : Result Device Status) (P Q : Type 0)
    → (P → Q)
    → OnOk (told_by r) P
    → OnOk (told_by r) Q
told_map (Ok d) P Q f p = f p
told_map (Err Refused) P Q f p = f p
told_map (Err Done) P Q f p = tt
told_map (Err Usage) P Q f p = tt
told_map (Err Malformed) P Q f p = tt
told_map (Err NotADevice) P Q f p = tt
told_map (Err Disk) P Q f p = tt
told_map (Err Port) P Q f p = tt
told_map (Err NoMemory) P Q f p = tt

-- where one is refused, what comes of those up to it comes of all
refused_same : (e : Status) (xs ys : List Act) (m : Mounted) (P : Course → Type 0)
    → OnOk (told_by (Err e)) (e ≡ (course xs m).ends)
    → OnOk (told_by (Err e)) (P (course xs m))
    → OnOk (told_by (Err e)) (P (course (xs ++ ys) m))
refused_same Refused xs ys m P ends p =
    subst P
    (sym (acts_ended xs ys m (λ done. let bad : Refused ≡ Done = ends ∙ done in cc)))
    p
refused_same Done xs ys m P ends p = tt
refused_same Usage xs ys m P ends p = tt
refused_same Malformed xs ys m P ends p = tt
refused_same NotADevice xs ys m P ends p = tt
refused_same Disk xs ys m P ends p = tt
refused_same Port xs ys m P ends p = tt
refused_same NoMemory xs ys m P ends p = tt

ok_map : {A E : Type 0} (r : Result A E) (P Q : A → Type 0)
    → ((x : A) → P x → Q x)
    → IfOk r P
    → IfOk r Q
ok_map (Ok x) P Q f p = f x p
ok_map (Err e) P Q f p = tt

-- ---- what is performed

module _ {D : Type 0} (g : Ghosts D) (d : Device) where
  -- the same of another course, where it is that one
  pub performs_as : (b c : Course) (old new : D) (r : Result Device Status)
      → (g.is_modelled → b ≡ c)
      → Performs g d b old new r
      → Performs g d c old new r
  performs_as b c old new r same p = record {
    size = p.size;
    kept = p.kept;
    geometry = p.geometry;
    represents = p.represents;
    copies = p.copies;
    ends = λ t.
        subst (λ (x : Course). OnOk (told_by r) (status_in r ≡ x.ends)) (same t) (p.ends t);
    told = λ t.
        subst
        (λ (x : Course). OnOk (told_by r) (g.told new ≡ g.told old ++ joined x.items))
        (same t) (p.told t);
    stands = λ t.
        subst
        (λ (x : Course). OnOk (told_by r) (IsIn (g.size old) x.last (g.seen new)))
        (same t) (p.stands t);
    rest = p.rest;
    front = λ t.
        subst
        (λ (x : Course). (n : ℕ) × (g.told new ≡ g.told old ++ take n (joined x.items)))
        (same t) (p.front t);
    short = λ t memory.
        subst (λ (x : Course). StopsAmong g (g.size old) x.items old new) (same t)
        (p.short t memory);
    time = λ t rest.
        subst
        (λ (x : Course).
        Adds g.moment g.outcomes old new (LeavesAmong (g.size old) x.items (g.told old)))
        (same t) (p.time t rest);
    changes = p.changes;
    quiet = p.quiet;
    stop = p.stop;
    steady = p.steady;
    disk = p.disk;
    port = p.port;
  }

  -- one wasn't done, and others were to follow
  pub performs_short : (xs ys : List Act) (m : Mounted) (old new : D) (e : Status)
      → Performs g d (course xs m) old new (Err e)
      → Performs g d (course (xs ++ ys) m) old new (Err e)
  performs_short xs ys m old new e p =
      let more = acts_more xs ys m in
      record {
        size = p.size;
        kept = tt;
        geometry = tt;
        represents = λ t. tt;
        copies = p.copies;
        ends = λ t. refused_same e xs ys m (λ c. e ≡ c.ends) (p.ends t) (p.ends t);
        told = λ t.
            refused_same e xs ys m (λ c. g.told new ≡ g.told old ++ joined c.items) (p.ends t)
            (p.told t);
        stands = λ t.
            refused_same e xs ys m (λ c. IsIn (g.size old) c.last (g.seen new)) (p.ends t)
            (p.stands t);
        rest = p.rest;
        front = λ t.
            front_before (course xs m).items more.0 (course (xs ++ ys) m).items
            (g.told old) (g.told new) more.1 (p.front t);
        short = λ t memory.
            stops_before g (g.size old) (course xs m).items more.0
            (course (xs ++ ys) m).items old new more.1 (p.short t memory);
        time = λ t rest.
            adds_wider g.moment g.outcomes old new _ _ (p.time t rest)
            (λ o l.
            leaves_before (g.size old) (course xs m).items more.0
            (course (xs ++ ys) m).items (g.told old) o more.1 l);
        changes = p.changes;
        quiet = p.quiet;
        stop = p.stop;
        steady = p.steady;
        disk = p.disk;
        port = p.port;
      }

-- ---- one behind the other

module _ {D : Type 0} (g : Ghosts D) (d next : Device) (xs ys : List Act) (old mid : D)
    (was : g.is_modelled → Represents d (g.size old) (g.seen old))
    (first : PerformsActs g d xs old mid (Ok next)) where
  abbrev pub m : Mounted
  m = mounted_on d (g.seen old)

  abbrev pub n : Mounted
  n = mounted_on next (g.seen mid)

  abbrev pub b : Course
  b = course xs m

  abbrev pub c : Course
  c = course ys n

  sized : g.size mid ≡ g.size old
  sized = first.size

  -- the device that is kept is the last one
  pub last_is : g.is_modelled → n ≡ b.last
  last_is t =
      mounted_is next (g.size old) (g.seen mid) b.last (first.represents t) (first.stands t)

  both_is : g.is_modelled → course (xs ++ ys) m ≡ behind b c
  both_is t =
      acts_behind xs ys m (sym (first.ends t))
      ∙ ap (λ (x : Mounted). behind b (course ys x)) (sym (last_is t))

  items_are : g.is_modelled → (course (xs ++ ys) m).items ≡ b.items ++ c.items
  items_are t = ap (λ (x : Course). x.items) (both_is t)

  faults_same : g.faults mid ≡ g.faults old
  faults_same = first.steady tt

  pub performs_more : (new : D) (r : Result Device Status)
      → PerformsActs g next ys mid new r
      → PerformsActs g d (xs ++ ys) old new r
  performs_more new r second = record {
    size = second.size ∙ sized;
    kept = ok_map r _ _ (λ x is. subst (λ (k : ℕ). IsDevice x k) sized is) second.kept;
    geometry = ok_map r _ _ (λ x is. is ∙ first.geometry) second.geometry;
    represents = λ t.
        ok_map r _ _ (λ x is. subst (λ (k : ℕ). Represents x k (g.seen new)) sized is)
        (second.represents t);
    copies = λ t held.
        subst (λ (k : ℕ). HasBothCopies k (g.seen new)) sized (second.copies t held);
    ends = λ t.
        told_map r _ _ (λ is. is ∙ ap (λ (x : Course). x.ends) (sym (both_is t)))
        (second.ends t);
    told = λ t.
        told_map r _ _
        (λ is.
        is
        ∙ ap (λ (l : List ℕ). l ++ joined c.items) (first.told t)
        ∙ append_assoc (g.told old) (joined b.items) (joined c.items)
        ∙ ap (λ (l : List ℕ). g.told old ++ l)
        (sym (joined_append (IsIn (g.size old)) b.items c.items) ∙ ap joined (sym (items_are t))))
        (second.told t);
    stands = λ t.
        told_map r _ _
        (λ is.
        subst (λ (x : Course). IsIn (g.size old) x.last (g.seen new)) (sym (both_is t))
        (subst (λ (k : ℕ). IsIn k c.last (g.seen new)) sized is))
        (second.stands t);
    rest = λ t rest. second.rest t (first.rest t rest);
    front = λ t.
        front_behind b.items c.items (course (xs ++ ys) m).items (g.told old) (g.told mid)
        (g.told new) (items_are t) (first.told t) (second.front t);
    short = λ t memory.
        stops_behind g (g.size old) b.items c.items (course (xs ++ ys) m).items old mid new
        (items_are t) (first.told t) (first.rest t)
        (subst (λ (k : ℕ). StopsAmong g k c.items mid new) sized (second.short t memory));
    time = λ t rest.
        adds_on g.moment g.outcomes old mid new _ _
        (adds_wider g.moment g.outcomes old mid _ _ (first.time t rest)
        (λ o l.
        leaves_before (g.size old) b.items c.items (course (xs ++ ys) m).items (g.told old) o
        (items_are t) l))
        (second.time t (first.rest t rest))
        (λ o l.
        leaves_behind (g.size old) b.items c.items (course (xs ++ ys) m).items (g.told old)
        (g.told mid) o (items_are t) (first.told t)
        (subst (λ (k : ℕ). LeavesAmong k c.items (g.told mid) o) sized l));
    changes = λ t.
        all_then g t (g.size old) d next old mid new (was t) (first.represents t)
        first.geometry (first.changes t) (second.changes t);
    quiet = λ t.
        let before = first.quiet t in
        let after = second.quiet t in
        record { left = after.left ∙ before.left; heard = after.heard ∙ before.heard };
    stop = second.stop;
    steady = λ held. second.steady held ∙ faults_same;
    disk = λ is.
        subst (λ (f : Faults). DiskFailed f (g.faults new)) faults_same (second.disk is);
    port = λ is.
        subst (λ (f : Faults). SinkFailed f (g.faults new)) faults_same (second.port is);
  }

-- nothing is to be done
pub performs_none : {D : Type 0} (g : Ghosts D) (d : Device) (old : D)
    → IsDevice d (g.size old)
    → (g.is_modelled → Represents d (g.size old) (g.seen old))
    → PerformsActs g d [] old old (Ok d)
unfolding course
performs_none g d old kept is = record {
  size = refl;
  kept = kept;
  geometry = refl;
  represents = is;
  copies = λ t held. both_copies d (g.size old) (g.seen old) (is t);
  ends = λ t. refl;
  told = λ t. sym (append-nil (g.told old));
  stands = λ t. device_stands d (g.size old) (g.seen old) (is t);
  rest = λ t rest. rest;
  front = λ t. (0, sym (append-nil (g.told old)));
  short = λ t none. cc;
  time = λ t rest. record {
    later = omega arith;
    keeps = λ t o before there. there;
    adds = λ t o before there. inl there;
  };
  changes = λ t. changes_none g _ old;
  quiet = λ t. record { left = refl; heard = refl };
  stop = tt;
  steady = λ held. refl;
  disk = λ none. cc;
  port = λ none. cc;
}

-- ---- the device that goes on

pub kept_next : {D : Type 0} (g : Ghosts D) (d next : Device) (xs : List Act) (old new : D)
    → PerformsActs g d xs old new (Ok next)
    → IsDevice next (g.size new)
kept_next g d next xs old new p = subst (λ (n : ℕ). IsDevice next n) (sym p.size) p.kept

pub represents_next : {D : Type 0} (g : Ghosts D) (d next : Device) (xs : List Act) (old new : D)
    → PerformsActs g d xs old new (Ok next)
    → g.is_modelled
    → Represents next (g.size new) (g.seen new)
represents_next g d next xs old new p t =
    subst (λ (n : ℕ). Represents next n (g.seen new)) (sym p.size) (p.represents t)

-- ---- lists of acts, or of their commands

-- one more of the same
pub one_more : {A : Type 0} (n : ℕ) (a : A) → replicate n a ++ a ∷ [] ≡ replicate (n + 1) a
one_more n a = replicate-append-replicate n 1 a

-- so many images, and the next one
pub map_more : {A : Type 0} (f : SetImage → A) (set : List SetImage) (n : ℕ) (image : SetImage)
    → n < length set
    → get_or set n image ≡ image
    → map f (take n set) ++ f image ∷ [] ≡ map f (take (n + 1) set)
map_more {A} f set n image below is = rw add-one (more set n below is)
  where
    more : (xs : List SetImage) (k : ℕ)
        → k < length xs
        → get_or xs k image ≡ image
        → map f (take k xs) ++ f image ∷ [] ≡ map f (take (suc k) xs)
    more [] k below is = absurd (omega (arith, below))
    more (x ∷ xs) zero below is = ap (λ (y : SetImage). f y ∷ []) (sym is)
    more (x ∷ xs) (suc k) below is =
        ap (λ (l : List A). f x ∷ l) (more xs k (omega (arith, below)) is)

pub map_both : {A : Type 0} (f : SetImage → A) (set : List SetImage) (n : ℕ)
    → map f (take n set) ++ map f (drop n set) ≡ map f set
map_both f set n =
    sym (map-append f (take n set) (drop n set)) ∙ ap (map f) (take-append-drop n set)

pub map_all : {A : Type 0} (f : SetImage → A) (set : List SetImage) (n : ℕ)
    → length set ≤ n
    → map f (take n set) ≡ map f set
map_all f set n is = ap (map f) (take_all n set is)
