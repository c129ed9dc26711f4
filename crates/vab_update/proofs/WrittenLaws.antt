-- What commands write, one behind the other.
use Rattle.std.proofs.Common.{◌≡◌, ◌∙◌, inl, inr, ⊎_elim, ℕ, List, [], ◌∷◌, ◌++◌, Result, Ok}
use Rattle.std.proofs.Common.{Err, refl, sym, ap, subst}
use Rattle.std.specs.Prelude.{Option, IfOk}
use Rattle.std.proofs.lemmas.Bool.{cases_Bool}
use Rattle.vab_disk.specs.declared.disk.Disk.{Ghosts}
use Rattle.vab_disk.specs.Disk.{Image}
use Rattle.vab_disk.specs.Calls.{SameBut}
use Rattle.vab_disk.proofs.Moments.{adds_on, adds_wider}
use Rattle.vab_gate.specs.declared.gate.DiskFault.{DiskFault}
use Rattle.vab_model.specs.declared.command.Refusal.{Refusal}
use Rattle.vab_model.specs.declared.command.Reply.{Reply}
use Rattle.vab_model.specs.declared.command.Reply.TheVariants as replies
use Rattle.vab_model.specs.Commands.{Command}
use Rattle.vab_model.specs.Effects.{Effect, after_of, answers}
use Rattle.vab_device.specs.declared.device.Device.{Device}
use Rattle.vab_device.specs.Does.{Does}
use Rattle.vab_device.specs.Kept.{IsDevice}
use Rattle.vab_device.specs.Mounted.{Mounted, mounted_on}
use Rattle.vab_device.specs.Reading.{Represents}
use Rattle.vab_commands.specs.Writes.{IsOfCommand}
use Rattle.vab_session.specs.Written.{IsOfChange, WritesAs}
use Rattle.vab_session.proofs.WrittenLaws.{command_writes}
use Rattle.vab_update.specs.declared.stop.Stop.{Stop}
use Rattle.vab_update.specs.declared.stop.Stop.TheVariants as stops
use Rattle.vab_update.specs.Carries.{CarriesOut}
use Rattle.vab_update.specs.Orders.{Order, effect_all, effect_one, is_refused}
use Rattle.vab_update.specs.Written.{CarriesOrders, IsOfOrder, OrdersDone}
use Rattle.vab_update.specs.Written.{OrdersWritten, WritesOrders, comes_to}
use Rattle.vab_update.proofs.CarriesLaws as carries
use Rattle.vab_update.proofs.OrderLaws.{after_second, effect_single, followed_refused}

-- ---- lists of commands

module _ (M : Type 0) (size : ℕ) where
  -- none of them is begun
  unbegun : (d : Device) (old : Image) (os : List Order) (image : Image)
      → image ≡ old
      → OrdersWritten M size d old os image
  unbegun d old [] image same = same
  unbegun d old (o ∷ os) image same = inl (λ s. inl (ap (λ (x : Image). x s) same))

  -- others follow
  pub written_left : (d : Device) (old : Image) (xs ys : List Order) (image : Image)
      → OrdersWritten M size d old xs image
      → OrdersWritten M size d old (xs ++ ys) image
  written_left d old [] ys image is = unbegun d old ys image is
  written_left d old (x ∷ xs) ys image (inl some) = inl some
  written_left d old (x ∷ xs) ys image (inr (next, mid, wrote, stands, at, rest)) =
      inr (next, mid, wrote, stands, at, written_left next mid xs ys image rest)

  -- others stand before them
  pub written_right : (d last : Device) (old mid : Image) (xs ys : List Order)
      (image : Image)
      → OrdersDone M size d old xs last mid
      → OrdersWritten M size last mid ys image
      → OrdersWritten M size d old (xs ++ ys) image
  written_right d last old mid [] ys image (same, here) is =
      subst (λ (x : Device). OrdersWritten M size x old ys image) same
      (subst (λ (i : Image). OrdersWritten M size last i ys image) here is)
  written_right d last old mid (x ∷ xs) ys image (next, one, wrote, stands, at, rest) is =
      inr (next, one, wrote, stands, at, written_right next last one mid xs ys image rest is)

  pub done_both : (d last end : Device) (old mid new : Image) (xs ys : List Order)
      → OrdersDone M size d old xs last mid
      → OrdersDone M size last mid ys end new
      → OrdersDone M size d old (xs ++ ys) end new
  done_both d last end old mid new [] ys (same, here) is =
      subst (λ (x : Device). OrdersDone M size x old ys end new) same
      (subst (λ (i : Image). OrdersDone M size last i ys end new) here is)
  done_both d last end old mid new (x ∷ xs) ys (next, one, wrote, stands, at, rest) is =
      (next, one, wrote, stands, at, done_both next last end one mid new xs ys rest is)

-- ---- runs of calls

pub orders_more : {D : Type 0} (g : Ghosts D) (d next : Device) (xs ys : List Order)
    (old mid new : D) (r : Result Device Stop)
    → (g.is_modelled → Represents d (g.size old) (g.seen old))
    → CarriesOrders g d xs old mid (Ok next)
    → CarriesOrders g next ys mid new r
    → CarriesOrders g d (xs ++ ys) old new r
orders_more g d next xs ys old mid new r was first second = record {
  carries = carries.carries_more g d next xs ys old mid new r was first.carries second.carries;
  writes = both;
}
  where
    sized : g.size mid ≡ g.size old
    sized = first.carries.quiet.size

    done_of : g.is_modelled
        → (q : Result Device Stop)
        → IfOk q (λ last. OrdersDone g.is_modelled (g.size mid) next (g.seen mid) ys last
        (g.seen new))
        → IfOk q (λ last. OrdersDone g.is_modelled (g.size old) d (g.seen old) (xs ++ ys) last
        (g.seen new))
    done_of t (Ok last) is =
        done_both g.is_modelled (g.size old) d next last (g.seen old) (g.seen mid) (g.seen new) xs
        ys (first.writes t).done
        (subst
        (λ (n : ℕ). OrdersDone g.is_modelled n next (g.seen mid) ys last (g.seen new)) sized is)
    done_of t (Err s) is = tt

    both : g.is_modelled → WritesOrders g d (xs ++ ys) old new r
    both t =
        let behind : (image : Image)
        → OrdersWritten g.is_modelled (g.size mid) next (g.seen mid) ys image
        → OrdersWritten g.is_modelled (g.size old) d (g.seen old) (xs ++ ys) image =
        λ image is.
        written_right g.is_modelled (g.size old) d next (g.seen old) (g.seen mid) xs ys image
        (first.writes t).done
        (subst (λ (n : ℕ). OrdersWritten g.is_modelled n next (g.seen mid) ys image) sized is) in
        record {
          seen = behind (g.seen new) (second.writes t).seen;
          time = λ rest.
              adds_on g.moment g.outcomes old mid new _ _
              (adds_wider g.moment g.outcomes old mid _ _ ((first.writes t).time rest)
              (λ o is.
              written_left g.is_modelled (g.size old) d (g.seen old) xs ys o.image is))
              ((second.writes t).time (first.carries.rest t rest))
              (λ o is. behind o.image is);
          done = done_of t r (second.writes t).done;
        }

pub orders_short : {D : Type 0} (g : Ghosts D) (d : Device) (xs ys : List Order)
    (old new : D) (s : Stop)
    → CarriesOrders g d xs old new (Err s)
    → CarriesOrders g d (xs ++ ys) old new (Err s)
orders_short g d xs ys old new s is = record {
  carries = carries.carries_short g d xs ys old new s is.carries;
  writes = λ t. record {
    seen =
        written_left g.is_modelled (g.size old) d (g.seen old) xs ys (g.seen new)
        (is.writes t).seen;
    time = λ rest.
        adds_wider g.moment g.outcomes old new _ _ ((is.writes t).time rest)
        (λ o w. written_left g.is_modelled (g.size old) d (g.seen old) xs ys o.image w);
    done = tt;
  };
}

-- ---- one command

-- what one alone makes of a device is what it makes in a list
one_after : (o : Order) (m : Mounted)
    → after_of m (effect_all (o ∷ []) m) ≡ after_of m (effect_one o m)
one_after o m =
    let e : Effect Mounted = effect_one o m in
    let rest : Effect Mounted = answers replies.Done in
    ap (λ (x : Effect Mounted). after_of m x) (effect_single o m)
    ∙ elim (cases_Bool (is_refused e.reply)) [
      | inl refused ↦ ap (λ (x : Effect Mounted). after_of m x) (followed_refused e rest refused)
      | inr done ↦ after_second m e rest done
    ]

module _ {D : Type 0} (g : Ghosts D) (d : Device) (o : Order) (staged : Option (List ℕ))
    (c : Command) (old new : D)
    (same : o.command (mounted_on d (g.seen old)) ≡ c)
    (bytes : o.staged ≡ staged) where
  abbrev Doing : Result (Device × Reply) DiskFault → Type 0
  Doing r = Does g d staged c (IsOfCommand g.is_modelled d (g.seen old 4) c) old new r

  -- as what the order writes
  of_order : WritesAs g (IsOfChange g.is_modelled d (record {
    now = mounted_on d (g.seen old);
    staged = staged;
  }) (g.seen old 4) c) old new
      → WritesAs g (IsOfOrder g.is_modelled d (g.seen old) o) old new
  of_order is =
      subst
      (λ (x : Command).
      WritesAs g (IsOfChange g.is_modelled d (comes_to d (g.seen old) o) (g.seen old 4) x) old new)
      (sym same)
      (subst
      (λ (b : Option (List ℕ)).
      WritesAs g (IsOfChange g.is_modelled d (record {
        now = mounted_on d (g.seen old);
        staged = b;
      }) (g.seen old 4) c) old new)
      (sym bytes) is)

  -- whatever comes of it
  wrote : (r : Result (Device × Reply) DiskFault)
      → Doing r
      → g.is_modelled
      → WritesAs g (IsOfOrder g.is_modelled d (g.seen old) o) old new
  wrote r does t =
      of_order
      (command_writes g t d (record { now = mounted_on d (g.seen old); staged = staged }) c old
      new refl r does)

  some_written : (r : Result Device Stop)
      → WritesAs g (IsOfOrder g.is_modelled d (g.seen old) o) old new
      → IfOk r
      (λ last. OrdersDone g.is_modelled (g.size old) d (g.seen old) (o ∷ []) last (g.seen new))
      → WritesOrders g d (o ∷ []) old new r
  some_written r is done = record {
    seen = inl is.seen;
    time = λ rest. adds_wider g.moment g.outcomes old new _ _ (is.time rest) (λ o w. inl w);
    done = done;
  }

  pub order_failed : (fault : DiskFault)
      → CarriesOut g d (o ∷ []) old new (Err (stops.Disk fault))
      → Doing (Err fault)
      → CarriesOrders g d (o ∷ []) old new (Err (stops.Disk fault))
  order_failed fault is does = record {
    carries = is;
    writes = λ t. some_written (Err (stops.Disk fault)) (wrote (Err fault) does t) tt;
  }

  module _ (r : Device × Reply) (does : Doing (Ok r)) where
    pub order_refused : (refusal : Refusal)
        → CarriesOut g d (o ∷ []) old new (Err (stops.Refused refusal))
        → CarriesOrders g d (o ∷ []) old new (Err (stops.Refused refusal))
    order_refused refusal is = record {
      carries = is;
      writes = λ t. some_written (Err (stops.Refused refusal)) (wrote (Ok r) does t) tt;
    }

    pub order_done : (last : Device)
        → CarriesOut g d (o ∷ []) old new (Ok last)
        → CarriesOrders g d (o ∷ []) old new (Ok last)
    order_done last is = record {
      carries = is;
      writes = λ t.
          some_written (Ok last) (wrote (Ok r) does t) (
            last,
            g.seen new,
            (wrote (Ok r) does t).seen,
            is.represents t,
            is.after t ∙ one_after o (mounted_on d (g.seen old)),
            (refl, refl),
          );
    }

-- the device that is kept goes on
pub kept_next : {D : Type 0} (g : Ghosts D) (d next : Device) (xs : List Order) (old new : D)
    → CarriesOrders g d xs old new (Ok next)
    → IsDevice next (g.size new)
kept_next g d next xs old new is = carries.kept_next g d next xs old new is.carries

pub represents_next : {D : Type 0} (g : Ghosts D) (d next : Device) (xs : List Order) (old new : D)
    → CarriesOrders g d xs old new (Ok next)
    → g.is_modelled
    → Represents next (g.size new) (g.seen new)
represents_next g d next xs old new is = carries.represents_next g d next xs old new is.carries
