-- What acts write, one behind the other.
use Rattle.std.proofs.Common.{◌≡◌, ◌∙◌, inl, inr, ℕ, List, [], ◌∷◌, ◌++◌, Result, Ok, Err, refl}
use Rattle.std.proofs.Common.{sym, ap, subst}
use Rattle.std.specs.Prelude.{None, IfOk}
use Rattle.vab_disk.specs.declared.disk.Disk.{Ghosts}
use Rattle.vab_disk.specs.Disk.{Adds, Image}
use Rattle.vab_disk.specs.Calls.{Changes, IsAtRest}
use Rattle.vab_disk.specs.Port.{LeavesSaying}
use Rattle.vab_disk.proofs.Moments.{adds_none, adds_on, adds_wider}
use Rattle.vab_gate.specs.declared.gate.DiskFault.{DiskFault}
use Rattle.vab_model.specs.declared.command.Reply.{Reply}
use Rattle.vab_model.specs.Commands.{Command}
use Rattle.vab_model.specs.Effects.{Effect, after_of}
use Rattle.vab_model.specs.Kinds.{IsVerb}
use Rattle.vab_device.specs.declared.device.Device.{Device}
use Rattle.vab_device.specs.Does.{Does}
use Rattle.vab_device.specs.Kept.{IsDevice}
use Rattle.vab_device.specs.Mounted.{Mounted, mounted_on}
use Rattle.vab_device.specs.Reading.{Represents}
use Rattle.vab_commands.specs.Writes.{IsOfCommand}
use Rattle.vab_exchanges.specs.Items.{Kept}
use Rattle.vab_session.specs.Written.{IsOfChange, WritesAs}
use Rattle.vab_session.proofs.WrittenLaws.{command_writes}
use Rattle.vab_update.specs.Install.{order}
use Rattle.vab_update.specs.Orders.{Order}
use Rattle.vab_update.specs.Written.{OrdersDone, OrdersWritten}
use Rattle.vab_update.proofs.WrittenLaws.{done_both, written_left, written_right}
use Rattle.vab_cli.specs.declared.status.Status.{Status}
use Rattle.vab_cli.specs.declared.status.Status.TheVariants.{Disk, Port}
use Rattle.vab_cli.specs.Acts.{Act, DoesActs, PerformsActs, closed_by, course}
use Rattle.vab_cli.specs.Telling.{Says}
use Rattle.vab_cli.specs.Written.{WritesActs, WritesInOrder, WritesLife}
use Rattle.vab_cli.proofs.Acting.{closed_ok}
use Rattle.vab_cli.proofs.Courses.{performs_as, performs_more, performs_none, performs_short}
use Rattle.vab_cli.proofs.Items.{verb_effect}
use Rattle.vab_cli.proofs.Writing.{changes_as, orders_told}

-- ---- one command

module _ {D : Type 0} (g : Ghosts D) (t : g.is_modelled) (d : Device) (c : Command) (old mid : D)
  where
    abbrev W : ℕ → List ℕ → Type 0
    W = IsOfCommand g.is_modelled d (g.seen old 4) c

    abbrev k : Kept Mounted
    k = record { now = mounted_on d (g.seen old); staged = None }

    abbrev Changed : ℕ → List ℕ → Type 0
    Changed = IsOfChange g.is_modelled d k (g.seen old 4) c

    -- in a list
    as_order : WritesAs g Changed old mid → WritesInOrder g d (order c ∷ []) old mid
    as_order is = record {
      seen = inl is.seen;
      time = λ rest. adds_wider g.moment g.outcomes old mid _ _ (is.time rest) (λ o w. inl w);
    }

    -- the disk failed
    pub writes_failed : (fault : DiskFault)
        → Does g d None c W old mid (Err fault)
        → WritesActs g d (order c ∷ []) old mid (Err Disk)
    writes_failed fault does = record {
      all = as_order (command_writes g t d k c old mid refl (Err fault) does);
      done = tt;
    }

    -- its line is told, whole or in part
    module _ (verb : IsVerb c) (next : Device) (reply : Reply)
        (does : Does g d None c W old mid (Ok (next, reply)))
        (new : D) (text : List ℕ) {A E : Type 0} (q : Result A E)
        (says : Says g text mid new q) where
      wrote : WritesAs g Changed old mid
      wrote = command_writes g t d k c old mid refl (Ok (next, reply)) does

      wrote_told : WritesInOrder g d (order c ∷ []) old new
      wrote_told =
          orders_told g d (order c ∷ []) old mid new text (as_order wrote) (does.rest t) says.seen
          says.time

      abbrev Behind : Device → Image → Type 0
      Behind last image =
          OrdersDone g.is_modelled (g.size old) d (g.seen old) (order c ∷ []) last image

      wrote_all : Behind next (g.seen new)
      wrote_all =
          let m : Mounted = mounted_on d (g.seen old) in
          subst (Behind next) (sym says.seen) (
            next,
            g.seen mid,
            wrote.seen,
            does.represents t,
            does.after t
                ∙ ap (λ (e : Effect Mounted). after_of m e) (verb_effect does.refused c m verb),
            (refl, refl),
          )

      pub writes_closed : WritesActs g d (order c ∷ []) old new (closed_by next reply)
      writes_closed = record {
        all = wrote_told;
        done = closed_ok next reply (λ last. Behind last (g.seen new)) wrote_all;
      }

      pub writes_broken : WritesActs g d (order c ∷ []) old new (Err Port)
      writes_broken = record { all = wrote_told; done = tt }

-- ---- one behind the other

module _ {D : Type 0} (g : Ghosts D) (d : Device) where
  -- nothing is to be done
  pub writes_none : (old : D) → WritesActs g d [] old old (Ok d)
  writes_none old = record {
    all = record { seen = refl; time = λ rest. adds_none g.moment g.outcomes old _ };
    done = (refl, refl);
  }

  -- a line is told alone
  pub line_alone : (old new : D) (text : List ℕ)
      → g.seen new ≡ g.seen old
      → Adds g.moment g.outcomes old new (LeavesSaying (g.told old) text (g.may_leave old))
      → WritesInOrder g d [] old new
  line_alone old new text same time =
      orders_told g d [] old old new text
      (record { seen = refl; time = λ rest. adds_none g.moment g.outcomes old _ })
      (λ rest. rest) same time

  -- one wasn't done, and others were to follow
  pub writes_short : (xs ys : List Order) (old new : D) (e : Status)
      → WritesActs g d xs old new (Err e)
      → WritesActs g d (xs ++ ys) old new (Err e)
  writes_short xs ys old new e is =
      let more : (image : Image)
      → OrdersWritten g.is_modelled (g.size old) d (g.seen old) xs image
      → OrdersWritten g.is_modelled (g.size old) d (g.seen old) (xs ++ ys) image =
      λ image w. written_left g.is_modelled (g.size old) d (g.seen old) xs ys image w in
      record {
        all = record {
          seen = more (g.seen new) is.all.seen;
          time = λ rest.
              adds_wider g.moment g.outcomes old new _ _ (is.all.time rest)
              (λ o w. more o.image w);
        };
        done = tt;
      }

module _ {D : Type 0} (g : Ghosts D) (d next : Device) (xs ys : List Order) (old mid new : D)
    (sized : g.size mid ≡ g.size old)
    (rests : IsAtRest g old → IsAtRest g mid)
    (first : WritesActs g d xs old mid (Ok next)) where
  abbrev Written : List Order → Image → Type 0
  Written os image = OrdersWritten g.is_modelled (g.size old) d (g.seen old) os image

  abbrev Done : List Order → Device → Type 0
  Done os last = OrdersDone g.is_modelled (g.size old) d (g.seen old) os last (g.seen new)

  done_behind : (r : Result Device Status)
      → IfOk r
      (λ last. OrdersDone g.is_modelled (g.size mid) next (g.seen mid) ys last (g.seen new))
      → IfOk r (λ last. Done (xs ++ ys) last)
  done_behind (Ok last) is =
      done_both g.is_modelled (g.size old) d next last (g.seen old) (g.seen mid) (g.seen new) xs
      ys first.done
      (subst
      (λ (n : ℕ). OrdersDone g.is_modelled n next (g.seen mid) ys last (g.seen new)) sized is)
  done_behind (Err e) is = tt

  behind : (image : Image)
      → OrdersWritten g.is_modelled (g.size mid) next (g.seen mid) ys image
      → Written (xs ++ ys) image
  behind image is =
      written_right g.is_modelled (g.size old) d next (g.seen old) (g.seen mid) xs ys image
      first.done
      (subst (λ (n : ℕ). OrdersWritten g.is_modelled n next (g.seen mid) ys image) sized is)

  before : (image : Image) → Written xs image → Written (xs ++ ys) image
  before image is =
      written_left g.is_modelled (g.size old) d (g.seen old) xs ys image is

  pub writes_more : (r : Result Device Status)
      → WritesActs g next ys mid new r
      → WritesActs g d (xs ++ ys) old new r
  writes_more r second = record {
    all = record {
      seen = behind (g.seen new) second.all.seen;
      time = λ rest.
          adds_on g.moment g.outcomes old mid new _ _
          (adds_wider g.moment g.outcomes old mid _ _ (first.all.time rest)
          (λ o is. before o.image is))
          (second.all.time (rests rest))
          (λ o is. behind o.image is);
    };
    done = done_behind r second.done;
  }

-- ---- what is done and written

module _ {D : Type 0} (g : Ghosts D) (d : Device) where
  -- one act of one command
  pub does_one : (a : Act) (o : Order) (old new : D) (r : Result Device Status)
      → PerformsActs g d (a ∷ []) old new r
      → (g.is_modelled → WritesActs g d (o ∷ []) old new r)
      → DoesActs g d (a ∷ []) (o ∷ []) old new r
  does_one a o old new r performs writes = record { performs = performs; writes = writes }

  pub does_none : (old : D)
      → IsDevice d (g.size old)
      → (g.is_modelled → Represents d (g.size old) (g.seen old))
      → DoesActs g d [] [] old old (Ok d)
  does_none old kept is = record {
    performs = performs_none g d old kept is;
    writes = λ t. writes_none g d old;
  }

  -- the same of other lists, where they are those
  pub does_same : (xs ys : List Act) (os ps : List Order) (old new : D) (r : Result Device Status)
      → xs ≡ ys
      → os ≡ ps
      → DoesActs g d xs os old new r
      → DoesActs g d ys ps old new r
  does_same xs ys os ps old new r acts orders is =
      subst (λ (l : List Act). DoesActs g d l ps old new r) acts
      (subst (λ (l : List Order). DoesActs g d xs l old new r) orders is)

  pub does_as : (xs ys : List Act) (os ps : List Order) (old new : D) (r : Result Device Status)
      → (g.is_modelled
      → course xs (mounted_on d (g.seen old)) ≡ course ys (mounted_on d (g.seen old)))
      → (g.is_modelled → os ≡ ps)
      → DoesActs g d xs os old new r
      → DoesActs g d ys ps old new r
  does_as xs ys os ps old new r acts orders is = record {
    performs = performs_as g d _ _ old new r acts is.performs;
    writes = λ t.
        subst (λ (l : List Order). WritesActs g d l old new r) (orders t) (is.writes t);
  }

  pub does_short : (xs ys : List Act) (os ps : List Order) (old new : D) (e : Status)
      → DoesActs g d xs os old new (Err e)
      → DoesActs g d (xs ++ ys) (os ++ ps) old new (Err e)
  does_short xs ys os ps old new e is = record {
    performs = performs_short g d xs ys (mounted_on d (g.seen old)) old new e is.performs;
    writes = λ t. writes_short g d os ps old new e (is.writes t);
  }

pub does_more : {D : Type 0} (g : Ghosts D) (d next : Device) (xs ys : List Act)
    (os ps : List Order) (old mid : D)
    → (g.is_modelled → Represents d (g.size old) (g.seen old))
    → DoesActs g d xs os old mid (Ok next)
    → (new : D) (r : Result Device Status)
    → DoesActs g next ys ps mid new r
    → DoesActs g d (xs ++ ys) (os ++ ps) old new r
does_more g d next xs ys os ps old mid was first new r second =
    let p = first.performs in
    record {
      performs = performs_more g d next xs ys old mid was p new r second.performs;
      writes = λ t.
          writes_more g d next os ps old mid new p.size (p.rest t) (first.writes t) r
          (second.writes t);
    }

-- ---- a device that is made first

pub writes_made : {D : Type 0} (g : Ghosts D) (W : ℕ → List ℕ → Type 0) (size : ℕ) (d : Device)
    (made : Mounted) (orders : List Order) (old mid new : D)
    → g.is_modelled
    → g.size mid ≡ size
    → Represents d size (g.seen mid)
    → mounted_on d (g.seen mid) ≡ made
    → Changes g W old mid
    → (IsAtRest g old → IsAtRest g mid)
    → WritesInOrder g d orders mid new
    → WritesLife g W size made orders old new
writes_made g W size d made orders old mid new t sized represents is opens rests wrote =
    let first = changes_as g W old mid t opens in
    let wider : (image : Image)
    → OrdersWritten g.is_modelled (g.size mid) d (g.seen mid) orders image
    → OrdersWritten g.is_modelled size d (g.seen mid) orders image =
    λ image w.
    subst (λ (n : ℕ). OrdersWritten g.is_modelled n d (g.seen mid) orders image) sized w in
    inl (record {
      device = d;
      opened = g.seen mid;
      opens = first.seen;
      represents = represents;
      is = is;
      seen = wider (g.seen new) wrote.seen;
      time = λ rest.
          adds_on g.moment g.outcomes old mid new _ _
          (adds_wider g.moment g.outcomes old mid _ _ (first.time rest) (λ o same. inl same))
          (wrote.time (rests rest))
          (λ o w. inr (wider o.image w));
    })
