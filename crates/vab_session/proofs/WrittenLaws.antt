-- What exchanges write, one behind the other.
use Rattle.std.proofs.Common.{◌≡◌, ◌∙◌, ◌⊎◌, inl, inr, ⊎_elim, ℕ, List, [], ◌∷◌, ◌++◌, Option}
use Rattle.std.proofs.Common.{Some, None, Result, Bool, true, false, cond, refl, sym, ap}
use Rattle.std.proofs.Common.{subst, append_assoc}
use Rattle.std.proofs.lemmas.List.{append-nil}
use Rattle.std.specs.List.{flat_map}
use Rattle.std.specs.Prelude.{◌&&◌}
use Rattle.vab_disk.specs.declared.disk.Disk.{Ghosts}
use Rattle.vab_disk.specs.Disk.{Image, Adds, Nothing}
use Rattle.vab_disk.specs.Port.{LeavesSaying}
use Rattle.vab_disk.specs.Written.{same_image}
use Rattle.vab_disk.specs.Calls.{IsAtRest, OnlyReads, SameBut, Touches}
use Rattle.vab_disk.proofs.Moments.{adds_none, adds_on, adds_still, adds_wider}
use Rattle.vab_gate.specs.declared.gate.DiskFault.{DiskFault}
use Rattle.vab_model.specs.declared.command.Reply.{Reply}
use Rattle.vab_model.specs.Commands.{Command, Merge}
use Rattle.vab_model.specs.declared.command.Refusal.TheVariants.{NoMemory}
use Rattle.vab_model.specs.Effects.{Effect, refuses, unless_refused}
use Rattle.vab_device.specs.declared.device.Device.{Device}
use Rattle.vab_device.specs.Does.{Does}
use Rattle.vab_device.specs.Mounted.{Mounted, mounted_on}
use Rattle.vab_device.specs.Reading.{Represents}
use Rattle.vab_device.specs.Updates.{effect_on}
use Rattle.vab_commands.specs.Writes.{IsOfCommand}
use Rattle.vab_exchanges.specs.Session.{Exchange, IsExchange, packet, spelled}
use Rattle.vab_exchanges.specs.Items.{Kept, item_of, passed, item_behind}
use Rattle.vab_session.specs.Sparing.{AreExchanges}
use Rattle.vab_session.specs.Responses.{response, machine}
use Rattle.vab_session.specs.Served.{nothing_staged}
use Rattle.vab_session.specs.Written.{IsOfChange, IsOfPacket, WrittenInTurn}
use Rattle.vab_session.specs.Written.{WritesInTurn, WritesAs, WritesPacket}

-- ---- runs of calls

module _ {D : Type 0} (g : Ghosts D) (W : ℕ → List ℕ → Type 0) where
  same_all : (old new : Image) → new ≡ old → SameBut W old new
  same_all old new same s = inl (ap (λ (x : Image). x s) same)

  -- nothing is written, and something told
  pub writes_telling : (old new : D) (text : List ℕ)
      → g.seen new ≡ g.seen old
      → Adds g.moment g.outcomes old new (LeavesSaying (g.told old) text (g.may_leave old))
      → WritesAs g W old new
  writes_telling old new text same time = record {
    seen = same_all (g.seen old) (g.seen new) same;
    time = λ rest.
        adds_wider g.moment g.outcomes old new _ _ time
        (λ o leaves s. inl (rest s (o.image s) (leaves.each_sector s)));
  }

  -- nothing is written
  pub writes_still : (old new : D)
      → g.seen new ≡ g.seen old
      → Adds g.moment g.outcomes old new Nothing
      → WritesAs g W old new
  writes_still old new same time = record {
    seen = same_all (g.seen old) (g.seen new) same;
    time = λ rest. adds_wider g.moment g.outcomes old new _ _ time (λ o none. absurd none);
  }

  -- and behind it nothing more
  pub writes_heard : (old mid new : D)
      → WritesAs g W old mid
      → g.seen new ≡ g.seen mid
      → Adds g.moment g.outcomes mid new Nothing
      → WritesAs g W old new
  writes_heard old mid new first same time = record {
    seen = subst (SameBut W (g.seen old)) (sym same) first.seen;
    time = λ rest.
        adds_still g.moment g.outcomes old mid new (λ o. SameBut W (g.seen old) o.image)
        (first.time rest) time;
  }

  -- such sectors are touched
  pub writes_touches : g.is_modelled → (old new : D) → Touches g W old new → WritesAs g W old new
  writes_touches t old new touches = record {
    seen = touches.seen t;
    time = λ rest.
        adds_wider g.moment g.outcomes old new _ _ (touches.time t)
        (λ o leaves s.
        ⊎_elim (λ was. inl (rest s (o.image s) was)) (λ wrote. inr wrote)
        (leaves.each_sector s));
  }

  -- and behind it something is told
  pub writes_told : (old mid new : D) (text : List ℕ)
      → WritesAs g W old mid
      → (IsAtRest g old → IsAtRest g mid)
      → g.seen new ≡ g.seen mid
      → Adds g.moment g.outcomes mid new (LeavesSaying (g.told mid) text (g.may_leave mid))
      → WritesAs g W old new
  writes_told old mid new text first rests same time = record {
    seen = subst (SameBut W (g.seen old)) (sym same) first.seen;
    time = λ rest.
        adds_on g.moment g.outcomes old mid new (λ o. SameBut W (g.seen old) o.image) _
        (first.time rest) time
        (λ o leaves.
        subst (SameBut W (g.seen old))
        (sym (same_image o.image (g.seen mid)
        (λ s. rests rest s (o.image s) (leaves.each_sector s))))
        first.seen);
  }

-- where more may be written
pub writes_as : {D : Type 0} (g : Ghosts D) (V W : ℕ → List ℕ → Type 0) (old new : D)
    → ((s : ℕ) (b : List ℕ) → V s b → W s b)
    → WritesAs g V old new
    → WritesAs g W old new
writes_as g V W old new wider is = record {
  seen = λ s. but (is.seen s) (wider s (g.seen new s));
  time = λ rest.
      adds_wider g.moment g.outcomes old new _ _ (is.time rest)
      (λ o same s. but (same s) (wider s (o.image s)));
}
  where
    but : {P Q R : Type 0} → P ⊎ Q → (Q → R) → P ⊎ R
    but (inl same) f = inl same
    but (inr wrote) f = inr (f wrote)

-- ---- one command

still_of : (refused : Bool) (e : Effect Mounted)
    → e.later ≡ []
    → (unless_refused refused e).later ≡ []
still_of refused e none = by (refused && e.wants)
  where
    by : (b : Bool) → (let f : Effect Mounted = cond b (refuses NoMemory) e in f.later ≡ [])
    by true = refl
    by false = none

module _ {D : Type 0} (g : Ghosts D) (t : g.is_modelled) (d : Device) (k : Kept Mounted)
    (c : Command) (old new : D) (is : k.now ≡ mounted_on d (g.seen old)) where
  abbrev W : ℕ → List ℕ → Type 0
  W = IsOfCommand g.is_modelled d (g.seen old 4) c

  -- whatever comes of it
  pub command_writes : (r : Result (Device × Reply) DiskFault)
      → Does g d k.staged c W old new r
      → WritesAs g (IsOfChange g.is_modelled d k (g.seen old 4) c) old new
  command_writes r does = by (effect_on k.now k.staged c).later refl
    where
      by : (later : List Mounted)
          → (effect_on k.now k.staged c).later ≡ later
          → WritesAs g (IsOfChange g.is_modelled d k (g.seen old 4) c) old new
      by [] none =
          let same : (effect_on (mounted_on d (g.seen old)) k.staged c).later ≡ [] =
          ap (λ (m : Mounted). (effect_on m k.staged c).later) (sym is) ∙ none in
          let reads : OnlyReads g old new =
          does.still t (still_of does.refused
          (effect_on (mounted_on d (g.seen old)) k.staged c) same) in
          writes_still g (IsOfChange g.is_modelled d k (g.seen old 4) c) old new
          (reads.seen t) (reads.time t)
      by (m ∷ ms) some =
          writes_as g W (IsOfChange g.is_modelled d k (g.seen old 4) c) old new
          (λ s b w.
          record {
            changes = λ none. let both = sym some ∙ none in cc;
            writes = w;
          })
          (writes_touches g W t old new (does.touches t))

-- ---- one exchange behind the other

more_exchanges : (ss : List Exchange) (s : Exchange)
    → AreExchanges ss
    → IsExchange s
    → AreExchanges (ss ++ s ∷ [])
more_exchanges [] s are one = (one, tt)
more_exchanges (x ∷ xs) s are one = (are.0, more_exchanges xs s are.1 one)

spelled_more : (ss : List Exchange) (s : Exchange) (later : List ℕ)
    → flat_map spelled (ss ++ s ∷ []) ++ later ≡ flat_map spelled ss ++ (spelled s ++ later)
spelled_more [] s later = ap (λ (l : List ℕ). l ++ later) (append-nil (spelled s))
spelled_more (t ∷ ts) s later =
    append_assoc (spelled t) (flat_map spelled (ts ++ s ∷ [])) later
    ∙ ap (λ (l : List ℕ). spelled t ++ l) (spelled_more ts s later)
    ∙ sym (append_assoc (spelled t) (flat_map spelled ts) (spelled s ++ later))

module _ (M : Type 0) (turns size : ℕ) where
  -- the turns of a merge before a packet is heard are made, which leaves this device
  pub record IsPassed (d : Device) (k : Kept Mounted) (old : Image) (next : Device) (now : Image)
      : Type 0 where
    pub wrote : SameBut (IsOfChange M d k (old 4) (Merge turns)) old now
    pub represents : Represents next size now
    pub is : mounted_on next now ≡ (passed (machine turns) k).now

  -- a packet is answered, which leaves this device
  pub record IsAnswered (d : Device) (k : Kept Mounted) (old : Image) (s : Exchange)
      (next : Device) (now : Image) : Type 0 where
    pub wrote : SameBut (IsOfPacket M d k (old 4) s.command) old now
    pub represents : Represents next size now
    pub is : mounted_on next now ≡ (item_of response k s).last.now

  -- the exchanges are done, and this device is kept behind them
  abbrev pub Carried : Device
      → Kept Mounted
      → Image
      → List Exchange
      → Device
      → Kept Mounted
      → Image
      → Type 0
  Carried d k old [] d' k' now = (d' ≡ d) × (k' ≡ k) × (now ≡ old)
  Carried d k old (s ∷ ss) d' k' now =
      (next : Device)
      × (mid : Image)
      × IsPassed d k old next mid
      × (next' : Device)
      × (mid' : Image)
      × IsAnswered next (passed (machine turns) k) mid s next' mid'
      × Carried next' (item_behind (machine turns) k s).last mid' ss d' k' now

  -- one exchange more
  pub carried_more : (d : Device) (k : Kept Mounted) (old : Image) (done : List Exchange)
      (d' : Device) (k' : Kept Mounted) (mid : Image) (next : Device) (mid' : Image)
      (s : Exchange) (d'' : Device) (k'' : Kept Mounted) (now : Image)
      → Carried d k old done d' k' mid
      → IsPassed d' k' mid next mid'
      → IsAnswered next (passed (machine turns) k') mid' s d'' now
      → k'' ≡ (item_behind (machine turns) k' s).last
      → Carried d k old (done ++ s ∷ []) d'' k'' now
  carried_more d k old [] d' k' mid next mid' s d'' k'' now (devices, kept, images) turned
      answered last =
      subst
      (λ (x : Device × Kept Mounted × Image). Carried x.0 x.1 x.2 (s ∷ []) d'' k'' now)
      (λ i. (devices i, kept i, images i))
      (next, mid', turned, d'', now, answered, (refl, last, refl))
  carried_more d k old (x ∷ xs) d' k' mid next mid' s d'' k'' now first turned answered last = (
    first.0,
    first.1,
    first.2,
    first.3,
    first.4,
    first.5,
    carried_more first.3 (item_behind (machine turns) k x).last first.4 xs d' k' mid next mid' s
        d'' k'' now first.6 turned answered last,
  )

  -- behind them others
  pub written_behind : (d : Device) (k : Kept Mounted) (old : Image) (done : List Exchange)
      (d' : Device) (k' : Kept Mounted) (mid : Image) (ss : List Exchange)
      (more : Option (List ℕ)) (image : Image)
      → Carried d k old done d' k' mid
      → WrittenInTurn M turns size d' k' mid ss more image
      → WrittenInTurn M turns size d k old (done ++ ss) more image
  written_behind d k old [] d' k' mid ss more image (devices, kept, images) is =
      subst
      (λ (x : Device × Kept Mounted × Image).
      WrittenInTurn M turns size x.0 x.1 x.2 ss more image)
      (λ i. (devices i, kept i, images i)) is
  written_behind d k old (x ∷ xs) d' k' mid ss more image first is = inr (
    first.0,
    first.1,
    first.2.wrote,
    first.2.represents,
    first.2.is,
    inr (
      first.3,
      first.4,
      first.5.wrote,
      first.5.represents,
      first.5.is,
      written_behind first.3 (item_behind (machine turns) k x).last first.4 xs d' k' mid ss
          more image first.6 is,
    ),
  )

  -- nothing more is written
  pub written_still : (d : Device) (k : Kept Mounted) (old : Image) (ss : List Exchange)
      (more : Option (List ℕ))
      → WrittenInTurn M turns size d k old ss more old
  written_still d k old [] None = λ n. inl refl
  written_still d k old [] (Some command) = inl (λ n. inl refl)
  written_still d k old (s ∷ ss) more = inl (λ n. inl refl)

-- ---- a session that has come so far

module _ {D : Type 0} (g : Ghosts D) (turns size : ℕ) (d : Device) (k : Kept Mounted)
    (bytes : List ℕ) where
  -- The exchanges that are done, and what they have written: this device is kept behind them, and
  -- whatever comes behind them, no outcome was written otherwise.
  pub record HasWritten (d' : Device) (k' : Kept Mounted) (left : List ℕ) (old now : D) : Type 0
    where
      pub done : List Exchange
      pub are : AreExchanges done
      pub is : bytes ≡ flat_map spelled done ++ left
      pub carried : Carried g.is_modelled turns size d k (g.seen old) done d' k' (g.seen now)
      pub rests : IsAtRest g old → IsAtRest g now
      pub time : IsAtRest g old
          → (ss : List Exchange)
          → (more : Option (List ℕ))
          → Adds g.moment g.outcomes old now
          (λ o. WrittenInTurn g.is_modelled turns size d k (g.seen old) (done ++ ss) more o.image)

  pub written_none : (old : D) → HasWritten d k bytes old old
  written_none old = record {
    done = [];
    are = tt;
    is = refl;
    carried = (refl, refl, refl);
    rests = λ rest. rest;
    time = λ rest ss more. adds_none g.moment g.outcomes old _;
  }

  -- The turns of a merge before the next packet write so.
  abbrev pub WritesTurns : Device → Kept Mounted → (old new : D) → Type 0
  WritesTurns d' k' old new =
      WritesAs g (IsOfChange g.is_modelled d' k' (g.seen old 4) (Merge turns)) old new

  -- It ends here, with some of the turns that another packet would find made.
  pub written_end : (d' : Device) (k' : Kept Mounted) (left : List ℕ) (old mid now : D)
      → HasWritten d' k' left old mid
      → WritesTurns d' k' mid now
      → WritesInTurn g turns size d k bytes old now
  written_end d' k' left old mid now so_far wrote =
      let M : Type 0 = g.is_modelled in
      let all : so_far.done ++ [] ≡ so_far.done = append-nil so_far.done in
      record {
        done = so_far.done ++ [];
        more = None;
        after = left;
        are = subst AreExchanges (sym all) so_far.are;
        is = so_far.is ∙ ap (λ (l : List Exchange). flat_map spelled l ++ left) (sym all);
        seen =
            written_behind M turns size d k (g.seen old) so_far.done d' k' (g.seen mid) []
            None (g.seen now) so_far.carried wrote.seen;
        time = λ rest.
            adds_on g.moment g.outcomes old mid now _ _
            (so_far.time rest [] None)
            (wrote.time (so_far.rests rest))
            (λ o some.
            written_behind M turns size d k (g.seen old) so_far.done d' k' (g.seen mid) []
            None o.image so_far.carried some);
      }

  -- A packet is heard, behind the turns.
  module _ (d' next : Device) (k' : Kept Mounted) (left : List ℕ) (old mid now : D)
      (so_far : HasWritten d' k' left old mid) (turned : WritesTurns d' k' mid now)
      (represents : Represents next size (g.seen now))
      (is : mounted_on next (g.seen now) ≡ (passed (machine turns) k').now)
      (rests : IsAtRest g mid → IsAtRest g now) where
    abbrev kept : Kept Mounted
    kept = passed (machine turns) k'

    here : IsPassed g.is_modelled turns size d' k' (g.seen mid) next (g.seen now)
    here = record { wrote = turned.seen; represents = represents; is = is }

    -- so far, whatever comes behind
    some_turns : (ss : List Exchange) (more : Option (List ℕ))
        → ((image : Image)
        → SameBut (IsOfChange g.is_modelled d' k' (g.seen mid 4) (Merge turns)) (g.seen mid) image
        → WrittenInTurn g.is_modelled turns size d' k' (g.seen mid) ss more image)
        → IsAtRest g old
        → Adds g.moment g.outcomes old now
        (λ o. WrittenInTurn g.is_modelled turns size d k (g.seen old) (so_far.done ++ ss) more
        o.image)
    some_turns ss more first rest =
        adds_on g.moment g.outcomes old mid now _ _ (so_far.time rest ss more)
        (turned.time (so_far.rests rest))
        (λ o some.
        written_behind g.is_modelled turns size d k (g.seen old) so_far.done d' k' (g.seen mid) ss
        more o.image so_far.carried (first o.image some))

    -- the packet is answered, as far as it goes
    pub written_last : (before command : List ℕ) (new : D)
        → left ≡ packet command ++ before
        → WritesPacket g next kept command now new
        → WritesInTurn g turns size d k bytes old new
    written_last before command new there wrote =
        let M : Type 0 = g.is_modelled in
        let all : so_far.done ++ [] ≡ so_far.done = append-nil so_far.done in
        let behind : (image : Image)
        → SameBut (IsOfPacket M next kept (g.seen now 4) command) (g.seen now) image
        → WrittenInTurn M turns size d k (g.seen old) (so_far.done ++ []) (Some command) image =
        λ image some.
        written_behind M turns size d k (g.seen old) so_far.done d' k' (g.seen mid) []
        (Some command) image so_far.carried
        (inr (next, g.seen now, turned.seen, represents, is, some)) in
        record {
          done = so_far.done ++ [];
          more = Some command;
          after = before;
          are = subst AreExchanges (sym all) so_far.are;
          is =
              so_far.is
              ∙ ap (λ (l : List ℕ). flat_map spelled so_far.done ++ l) there
              ∙ ap (λ (l : List Exchange). flat_map spelled l ++ (packet command ++ before))
              (sym all);
          seen = behind (g.seen new) wrote.seen;
          time = λ rest.
              adds_on g.moment g.outcomes old now new _ _
              (some_turns [] (Some command) (λ image some. inl some) rest)
              (wrote.time (rests (so_far.rests rest)))
              (λ o some. behind o.image some);
        }

    -- it is answered
    pub written_more : (d'' : Device) (k'' : Kept Mounted) (after : List ℕ) (s : Exchange) (new : D)
        → IsExchange s
        → left ≡ spelled s ++ after
        → WritesPacket g next kept s.command now new
        → Represents d'' size (g.seen new)
        → mounted_on d'' (g.seen new) ≡ k''.now
        → k'' ≡ (item_behind (machine turns) k' s).last
        → (IsAtRest g now → IsAtRest g new)
        → HasWritten d'' k'' after old new
    written_more d'' k'' after s new one there wrote stands same last settles = record {
      done = so_far.done ++ s ∷ [];
      are = more_exchanges so_far.done s so_far.are one;
      is =
          so_far.is
          ∙ ap (λ (l : List ℕ). flat_map spelled so_far.done ++ l) there
          ∙ sym (spelled_more so_far.done s after);
      carried =
          carried_more g.is_modelled turns size d k (g.seen old) so_far.done d' k' (g.seen mid)
          next (g.seen now) s d'' k'' (g.seen new) so_far.carried here
          (record {
            wrote = wrote.seen;
            represents = stands;
            is = same ∙ ap (λ (x : Kept Mounted). x.now) last;
          })
          last;
      rests = λ rest. settles (rests (so_far.rests rest));
      time = λ rest ss more.
          subst
          (λ (l : List Exchange).
          Adds g.moment g.outcomes old new
          (λ o. WrittenInTurn g.is_modelled turns size d k (g.seen old) l more o.image))
          (sym (append_assoc so_far.done (s ∷ []) ss))
          (adds_on g.moment g.outcomes old now new _ _
          (some_turns (s ∷ ss) more (λ image some. inl some) rest)
          (wrote.time (rests (so_far.rests rest)))
          (λ o some.
          written_behind g.is_modelled turns size d k (g.seen old) so_far.done d' k' (g.seen mid)
          (s ∷ ss) more o.image so_far.carried
          (inr (next, g.seen now, turned.seen, represents, is, inl some))));
    }

-- the same from before the greeting and the hello
pub written_before : {D : Type 0} (g : Ghosts D) (turns size n : ℕ) (d : Device)
    (bytes rest : List ℕ) (old mid now : D)
    → n ≡ size
    → rest ≡ bytes
    → g.seen mid ≡ g.seen old
    → (IsAtRest g old → IsAtRest g mid)
    → (IsAtRest g old
    → Adds g.moment g.outcomes old mid (λ o. o.image ≡ g.seen old))
    → WritesInTurn g turns n d (nothing_staged (mounted_on d (g.seen mid))) rest mid now
    → WritesInTurn g turns size d (nothing_staged (mounted_on d (g.seen old))) bytes old now
written_before g turns size n d bytes rest old mid now sized same seen rests time is =
    let M : Type 0 = g.is_modelled in
    let moved : (image : Image)
    → WrittenInTurn M turns n d (nothing_staged (mounted_on d (g.seen mid))) (g.seen mid) is.done
    is.more image
    → WrittenInTurn M turns size d (nothing_staged (mounted_on d (g.seen old))) (g.seen old)
    is.done
    is.more image =
    λ image w.
    subst
    (λ (x : ℕ × Image).
    WrittenInTurn M turns x.0 d (nothing_staged (mounted_on d x.1)) x.1 is.done is.more image)
    (λ i. (sized i, seen i)) w in
    record {
      done = is.done;
      more = is.more;
      after = is.after;
      are = is.are;
      is = sym same ∙ is.is;
      seen = moved (g.seen now) is.seen;
      time = λ rest.
          adds_on g.moment g.outcomes old mid now _ _
          (adds_wider g.moment g.outcomes old mid _ _ (time rest)
          (λ o same.
          subst
          (λ (image : Image).
          WrittenInTurn M turns size d (nothing_staged (mounted_on d (g.seen old))) (g.seen old)
          is.done is.more image)
          (sym same)
          (written_still M turns size d (nothing_staged (mounted_on d (g.seen old))) (g.seen old)
          is.done is.more)))
          (is.time (rests rest))
          (λ o w. moved o.image w);
    }

-- nothing is written at all
pub written_nothing : {D : Type 0} (g : Ghosts D) (turns size : ℕ) (d : Device)
    (k : Kept Mounted) (bytes : List ℕ) (old new : D)
    → g.seen new ≡ g.seen old
    → (IsAtRest g old
    → Adds g.moment g.outcomes old new (λ o. o.image ≡ g.seen old))
    → WritesInTurn g turns size d k bytes old new
written_nothing g turns size d k bytes old new same time = record {
  done = [];
  more = None;
  after = bytes;
  are = tt;
  is = refl;
  seen = same_all g (IsOfChange g.is_modelled d k (g.seen old 4) (Merge turns)) (g.seen old)
      (g.seen new) same;
  time = λ rest.
      adds_wider g.moment g.outcomes old new _ _ (time rest)
      (λ o same.
      same_all g (IsOfChange g.is_modelled d k (g.seen old 4) (Merge turns)) (g.seen old) o.image
      same);
}

-- what was told of leaves the disk as it is
pub saying_same : {D : Type 0} (g : Ghosts D) (old mid : D) (text : List ℕ)
    → Adds g.moment g.outcomes old mid (LeavesSaying (g.told old) text (g.may_leave old))
    → IsAtRest g old
    → Adds g.moment g.outcomes old mid (λ o. o.image ≡ g.seen old)
saying_same g old mid text time rest =
    adds_wider g.moment g.outcomes old mid _ _ time
    (λ o leaves.
    same_image o.image (g.seen old) (λ s. rest s (o.image s) (leaves.each_sector s)))

-- the exchange of a packet that is answered
pub exchange_here : (left before after command : List ℕ) (s : Exchange)
    → left ≡ packet command ++ before
    → s.command ≡ command
    → before ≡ flat_map packet s.parts ++ after
    → left ≡ spelled s ++ after
exchange_here left before after command s is same behind =
    is
    ∙ (λ i. packet (sym same i) ++ behind i)
    ∙ sym (append_assoc (packet s.command) (flat_map packet s.parts) after)

-- what is written of a packet, by another name
pub packet_by : {D : Type 0} (g : Ghosts D) (d : Device) (k : Kept Mounted)
    (command named : List ℕ) (old new : D)
    → command ≡ named
    → WritesPacket g d k command old new
    → WritesPacket g d k named old new
packet_by g d k command named old new same wrote =
    subst (λ (l : List ℕ). WritesPacket g d k l old new) same wrote
