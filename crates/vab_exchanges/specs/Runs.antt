-- A run of items: which of their situations a cut of power may leave, and what was told whenever it
-- heard. Whether a disk is in a situation is given by the device.
use Rattle.std.specs.Prelude.{◌≡◌, ℕ, zero, suc, List, [], ◌∷◌, ◌++◌, length, take, drop}
use Rattle.std.specs.Prelude.{if◌then◌else◌, nat_le, codes, Option, Some, Result, Bool, false}
use Rattle.std.specs.List.{flat_map}
use Rattle.vab_disk.specs.Disk.{Image, Outcome, Adds, Hearing}
use Rattle.vab_disk.specs.Calls.{IsAtRest}
use Rattle.vab_disk.specs.declared.disk.Disk.{Ghosts}
use Rattle.vab_model.specs.Effects.{IsOneOf}
use Rattle.vab_fbproto.specs.Requests.{Asked, request_of}
use Rattle.vab_fbproto.specs.declared.request.BadCommand.{BadCommand}
use Rattle.vab_exchanges.specs.Session.{packet, Exchange, Leaves, due_of, End, spent, IsRead, Reads}
use Rattle.vab_exchanges.specs.Session.{IsSession, IsWaiting, IsAwaited, waits_behind, waits_in}
use Rattle.vab_exchanges.specs.Hearing.{HearsWhere, IsHeardFor}
use Rattle.vab_exchanges.specs.Reading.{EndsAs, IsBroken}
use Rattle.vab_exchanges.specs.Items.{Response, Kept, Item, data_text, asked_size, joined, item_of}
use Rattle.vab_exchanges.specs.Items.{item_open, Machine, items_of, kept_after, closing_of}
use Rattle.vab_exchanges.specs.Items.{final_of}
use Rattle.vab_exchanges.specs.Items.{output_of}

-- how many of them stand whole in what was told
abbrev pub acknowledged : {S : Type 0} → List (Item S) → List ℕ → ℕ
acknowledged [] told = 0
acknowledged (i ∷ is) told =
    if nat_le (length i.reply) (length told)
    then suc (acknowledged is (drop (length i.reply) told))
    else 0

-- the steps of the item that follows on the first n, and where there is none the situation after
-- them and those that close the run
abbrev pub steps_at : {S : Type 0} → (closing : List S) → S → List (Item S) → ℕ → List S
steps_at closing s [] n = s ∷ closing
steps_at closing s (i ∷ is) zero = i.steps
steps_at closing s (i ∷ is) (suc n) = steps_at closing i.last.now is n

module _ {S : Type 0} (IsIn : S → Image → Type 0) where
  abbrev pub StandsForOne : List S → Image → Type 0
  StandsForOne steps image = (s : S) × IsOneOf steps s × IsIn s image

  -- A front of the greeting and of what is told of the items is told, and the disk is in a step of
  -- the first item that doesn't stand whole, after all the acknowledged ones; behind them all, in
  -- one of the situations that close the run.
  pub record CrashesWithin
      (greeting : List ℕ)
      (first : S)
      (items : List (Item S))
      (closing : List S)
      (told : List ℕ)
      (o : Outcome) : Type 0 where
    pub since : List ℕ
    pub told_since : o.told ≡ told ++ since
    pub front : (n : ℕ) × (since ≡ take n (greeting ++ joined items))
    pub step : StandsForOne
        (steps_at closing first items (acknowledged items (drop (length greeting) since)))
        o.image

  -- Some front of what is told of an item is told, and the disk is in one of its steps. Where
  -- all of
  -- it stands, it is in the last.
  pub record LeavesItem (told : List ℕ) (item : Item S) (o : Outcome) : Type 0 where
    pub front : (n : ℕ) × (o.told ≡ told ++ take n item.reply)
    pub step : StandsForOne item.steps o.image
    pub whole : o.told ≡ told ++ item.reply → IsIn item.last.now o.image

module _ {S : Type 0} (machine : Machine S) where
  -- When the reader hears behind the hello, what had come by then is some of the exchanges, and
  -- none
  -- whole behind them; and what was told by then is all that is told of them.
  pub record IsPrompt
      (first : Kept S)
      (all : List Exchange)
      (bytes told : List ℕ)
      (h : Hearing) : Type 0 where
    pub came : List ℕ
    pub is : bytes ≡ came ++ h.input_left
    pub exchanges : List Exchange
    pub others : List Exchange
    pub first_ones : all ≡ exchanges ++ others
    pub unfinished : Option (List ℕ)
    pub waits : (count : ℕ)
        → (end : End) × IsRead count came exchanges unfinished end × IsWaiting count end
    pub told_then : h.told ≡ told ++ output_of machine first exchanges unfinished

  -- The same from the hello on: what had come by then is an input of its own that may go on,
  -- with the
  -- first exchanges of the session, and what was told by then is what a session of it tells.
  pub record IsTold
      (first : Kept S)
      (all : List Exchange)
      (input told : List ℕ)
      (h : Hearing) : Type 0 where
    pub came : List ℕ
    pub is : input ≡ came ++ h.input_left
    pub exchanges : List Exchange
    pub others : List Exchange
    pub first_ones : all ≡ exchanges ++ others
    pub unfinished : Option (List ℕ)
    pub end : End
    pub reads : Reads came exchanges unfinished end
    pub waits : IsWaiting (length came) end
    pub told_then : h.told ≡ told ++ output_of machine first exchanges unfinished

module _ {S D : Type 0} (IsIn : S → Image → Type 0) (g : Ghosts D) where
  -- The device has gone on by itself between two packets, as far as the disk let it: nothing is
  -- told and heard, and each outcome since is one of its situations.
  pub record Passes (front : List S) (s : S) (old new : D) : Type 0 where
    pub told : g.told new ≡ g.told old
    pub heard : g.heard new ≡ g.heard old
    pub time : IsAtRest g old
        → Adds g.moment g.outcomes old new
        (λ o. (o.told ≡ g.told old) × StandsForOne IsIn (s ∷ front) o.image)

module _ {S D : Type 0}
    (effect : S → Option (List ℕ) → Result Asked BadCommand → Response S)
    (IsIn : S → Image → Type 0)
    (g : Ghosts D) where
  -- while `DATA` is told of this command, and not all of its data have come
  abbrev pub HearsData : Kept S → (command bytes : List ℕ) → (old new : D) → Type 0
  HearsData k command bytes old new =
      HearsWhere
      (IsHeardFor (g.told old ++ (item_open effect k command).reply) bytes
      (IsAwaited (due_of false command)))
      (g.heard old)
      (g.heard new)

  -- An exchange was answered: its command, behind which the bytes stood, and the data that it
  -- brought.
  pub record Answers
      (k k' : Kept S)
      (command before after beyond : List ℕ)
      (old new : D) : Type 0 where
    pub exchange : Exchange
    pub command_is : exchange.command ≡ command
    pub all : Leaves (due_of exchange.refused exchange.command) exchange.parts 0
    pub is : before ≡ flat_map packet exchange.parts ++ after
    pub kept : k' ≡ (item_of effect k exchange).last
    pub told : g.told new ≡ g.told old ++ (item_of effect k exchange).reply
    pub stands : IsIn k'.now (g.seen new)
    pub settled : IsAtRest g old → IsAtRest g new
    pub heard : HearsData k command (before ++ beyond) old new
    pub time : IsAtRest g old
        → Adds g.moment g.outcomes old new
        (LeavesItem IsIn (g.told old) (item_of effect k exchange))

  -- The port failed while an exchange was answered that had come whole.
  pub record FailsWhole
      (k : Kept S)
      (command before beyond : List ℕ)
      (old new : D) : Type 0 where
    pub exchange : Exchange
    pub after : List ℕ
    pub command_is : exchange.command ≡ command
    pub all : Leaves (due_of exchange.refused exchange.command) exchange.parts 0
    pub is : before ≡ flat_map packet exchange.parts ++ after
    pub front : (n : ℕ) × (g.told new ≡ g.told old ++ take n (item_of effect k exchange).reply)
    pub heard : HearsData k command (before ++ beyond) old new
    pub time : IsAtRest g old
        → Adds g.moment g.outcomes old new
        (LeavesItem IsIn (g.told old) (item_of effect k exchange))

  -- what `DATA` is told of, and no more is done than that
  pub record StartsAs (k : Kept S) (command : List ℕ) (i : Item S) : Type 0 where
    pub more : List ℕ
    pub reply : i.reply ≡ packet (data_text (asked_size (request_of command))) ++ more
    pub steps : i.steps ≡ k.now ∷ []
    pub last : i.last.now ≡ k.now

  -- The port failed while a download was accepted, or its data came.
  pub record FailsOpen
      (k : Kept S)
      (command before beyond : List ℕ)
      (old new : D) : Type 0 where
    pub starts : (parts : List (List ℕ))
        → StartsAs k command
        (item_of effect k (record { command = command; refused = false; parts = parts }))
    pub front : (n : ℕ)
        × (g.told new
        ≡ g.told old ++ take n (packet (data_text (asked_size (request_of command)))))
    pub heard : HearsData k command (before ++ beyond) old new
    pub time : IsAtRest g old
        → (i : Item S)
        → StartsAs k command i
        → Adds g.moment g.outcomes old new (LeavesItem IsIn (g.told old) i)

  -- The data of a download that was accepted ended before all came.
  pub record BreaksOff
      (k : Kept S)
      (command before beyond : List ℕ)
      (count total most : ℕ)
      (end : End)
      (old new : D) : Type 0 where
    pub ends : EndsAs (IsBroken count (due_of false command) before) total most end
    pub told : g.told new ≡ g.told old ++ (item_open effect k command).reply
    pub stands : IsIn k.now (g.seen new)
    pub settled : IsAtRest g old → IsAtRest g new
    pub heard : HearsData k command (before ++ beyond) old new
    pub time : IsAtRest g old
        → Adds g.moment g.outcomes old new
        (LeavesItem IsIn (g.told old) (item_open effect k command))

module _ {S D : Type 0}
    (machine : Machine S)
    (IsIn : S → Image → Type 0)
    (g : Ghosts D) where
  -- The exchanges that stand in these bytes were answered, as far as the port let it: what is
  -- said of
  -- the end, what was told, in which situation it was left where that is known, what each cut of
  -- power
  -- leaves, and that it hears only where all else is answered. The bytes behind them are not the
  -- session's.
  pub record Ran
      (Held : Type 0)
      (Says : End → Type 0)
      (left : Option S)
      (count total most : ℕ)
      (bytes beyond : List ℕ)
      (first : Kept S)
      (told : List ℕ)
      (old new : D) : Type 0 where
    pub exchanges : List Exchange
    pub unfinished : Option (List ℕ)
    pub end : End
    pub read : IsRead count bytes exchanges unfinished end
    pub ends : Says (if nat_le most total then spent end else end)
    pub front : (n : ℕ)
        × (g.told new ≡ told ++ take n (output_of machine first exchanges unfinished))
    pub whole : Held → g.told new ≡ told ++ output_of machine first exchanges unfinished
    pub reached : (s : S)
        → left ≡ Some s
        → s ≡ final_of machine unfinished (waits_behind end)
        (kept_after machine first exchanges)
    pub stands : Held
        → IsIn
        (final_of machine unfinished (waits_behind end)
        (kept_after machine first exchanges))
        (g.seen new)
    pub settled : Held → IsAtRest g old → IsAtRest g new
    pub heard : HearsWhere
        (IsPrompt machine first exchanges (bytes ++ beyond) told)
        (g.heard old)
        (g.heard new)
    pub time : IsAtRest g old
        → Adds g.moment g.outcomes old new
        (CrashesWithin IsIn (codes "FB01") first.now
        (items_of machine first exchanges unfinished)
        (closing_of machine unfinished (waits_behind end) (kept_after machine first exchanges))
        told)

  -- A session was carried on, as far as the port let it: it is one of its input, and for the same
  -- choices there is no other. What was told is a front of what it tells, and all of it unless the
  -- port failed. In each outcome a front is told, and the disk is in a step of the first item that
  -- doesn't stand whole, or behind them all in one of the situations that the device goes through
  -- while another packet is waited for. It hears only where all that had come is answered.
  pub record Serves
      (Held : Type 0)
      (Says : End → Type 0)
      (left : Option S)
      (most : ℕ)
      (first : Kept S)
      (old new : D) : Type 0 where
    pub refused : ℕ → Bool
    pub exchanges : List Exchange
    pub unfinished : Option (List ℕ)
    pub end : End
    pub session : IsSession most refused (g.input_left old) exchanges unfinished end
    pub only : (others : List Exchange) (v : Option (List ℕ)) (other : End)
        → IsSession most refused (g.input_left old) others v other
        → (others ≡ exchanges) × (v ≡ unfinished) × (other ≡ end)
    pub ends : Says end
    pub front : (n : ℕ)
        × (g.told new ≡ g.told old ++ take n (output_of machine first exchanges unfinished))
    pub whole : Held → g.told new ≡ g.told old ++ output_of machine first exchanges unfinished
    pub reached : (s : S)
        → left ≡ Some s
        → s ≡ final_of machine unfinished (waits_in most (g.input_left old) end)
        (kept_after machine first exchanges)
    pub stands : Held
        → IsIn
        (final_of machine unfinished (waits_in most (g.input_left old) end)
        (kept_after machine first exchanges))
        (g.seen new)
    pub settled : Held → IsAtRest g old → IsAtRest g new
    pub heard : HearsWhere
        (IsTold machine first exchanges (g.input_left old) (g.told old))
        (g.heard old)
        (g.heard new)
    pub time : IsAtRest g old
        → Adds g.moment g.outcomes old new
        (CrashesWithin IsIn (codes "FB01") first.now
        (items_of machine first exchanges unfinished)
        (closing_of machine unfinished (waits_in most (g.input_left old) end)
        (kept_after machine first exchanges))
        (g.told old))
    pub every_cut : IsAtRest g old
        → (o : Outcome)
        → g.outcomes new (g.moment old) o
        → CrashesWithin IsIn (codes "FB01") first.now
        (items_of machine first exchanges unfinished)
        (closing_of machine unfinished (waits_in most (g.input_left old) end)
        (kept_after machine first exchanges))
        (g.told old) o
