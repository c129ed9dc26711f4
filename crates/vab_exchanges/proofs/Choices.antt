-- What is told fixes the choices.
use Rattle.std.proofs.Common.{◌≡◌, ◌≢◌, inl, inr, ⊎_elim, Bool, true, false, cond, subst, ℕ, zero}
use Rattle.std.proofs.Common.{suc, ◌<◌, ◌≤◌, List, [], ◌∷◌, ◌++◌, Option, Some, None, Result, Ok}
use Rattle.std.proofs.Common.{Err, length, get_or, take, drop, refl, sym, ◌∙◌, ap, arith}
use Rattle.std.proofs.Common.{append_assoc, ltb, codes}
use Rattle.std.proofs.lemmas.Bool.{cases_Bool, ltb-false}
use Rattle.std.proofs.lemmas.List.{drop_at}
use Rattle.std.specs.List.{flat_map}
use Rattle.hex.specs.Hex.{encode_with}
use Rattle.vab_fbproto.specs.Requests.{Asked, Getvar, Download, Do, MergeAll, BootAndEnd}
use Rattle.vab_fbproto.specs.Requests.{request_of}
use Rattle.vab_fbproto.specs.declared.request.BadCommand.{BadCommand}
use Rattle.vab_exchanges.specs.Session.{packet, ends_session, most_data, due_of, wanted, Exchange}
use Rattle.vab_exchanges.specs.Session.{spelled, IsExchange, Leaves, End, Stops, IsUnfinished}
use Rattle.vab_exchanges.specs.Session.{IsRead, Reads}
use Rattle.vab_exchanges.specs.Items.{Response, no_memory, unless_refused, Kept, Item, item_by}
use Rattle.vab_exchanges.specs.Items.{item_still, data_text, item_begun, joined, item_asked}
use Rattle.vab_exchanges.specs.Items.{item_of, item_open, IsPlain, TellsItsChoices, Machine}
use Rattle.vab_exchanges.specs.Items.{passed, behind, item_behind, open_behind, items_of}
use Rattle.vab_exchanges.proofs.Sessions.{append_front, hello_or_not}
use Rattle.vab_exchanges.proofs.Packets.{same_packet, same_exchange, stop_or_packet, due_refused}
use Rattle.vab_exchanges.proofs.Packets.{due_fits, leave_some, all_or_not}

-- a text that stands at the front of what is told is the first that is told
first_text : (a b x y : List ℕ)
    → length a ≤ most_data
    → length b ≤ most_data
    → packet a ++ x ≡ packet b ++ y
    → a ≡ b
first_text a b x y fits fits' is = let both = same_packet a b x y fits fits' is in both.0

long_data : (size : ℕ) → length (data_text size) ≤ most_data
unfolding encode_with
long_data size = omega arith

-- `DATA` isn't what is told where there is no memory
data_or_refused : (size : ℕ) (x y : List ℕ)
    → packet (codes "FAILout of memory") ++ x ≡ packet (data_text size) ++ y
    → ⊥
data_or_refused size x y is =
    let same : codes "FAILout of memory" ≡ data_text size =
    first_text (codes "FAILout of memory") (data_text size) x y (omega arith)
    (long_data size) is in
    let first : 70 ≡ 68 = ap (λ (l : List ℕ). get_or l 0 0) same in
    omega (arith, first)

none_due : (due : ℕ) (ps : List (List ℕ)) → due ≡ 0 → Leaves due ps 0 → ps ≡ []
none_due due [] none all = refl
none_due due (p ∷ ps) none all = absurd (omega (arith, none, all.0))

-- ---- a download

abbrev pub chosen : {S : Type 0} → Kept S → ℕ → Bool → Bool → List (List ℕ) → Item S
chosen k size big refused parts =
    cond big (item_still k (packet (codes "FAILtoo large")))
    (cond refused (item_still k (packet (codes "FAILout of memory")))
    (record {
      reply = packet (data_text size) ++ packet (codes "OKAY");
      steps = k.now ∷ [];
      last = record { now = k.now; staged = Some (flat_map (λ (part : List ℕ). part) parts) };
    }))

-- with memory and without
told_download : {S : Type 0} (k : Kept S) (size : ℕ) (big some : Bool) (ps qs : List (List ℕ))
    (x y : List ℕ)
    → ltb 0 size ≡ some
    → ps ≡ []
    → Leaves (cond big 0 size) qs 0
    → (chosen k size big some ps).reply ++ x ≡ (chosen k size big false qs).reply ++ y
    → (chosen k size big some ps ≡ chosen k size big false qs) × (cond big 0 size ≡ 0)
told_download k size true some ps qs x y is none all told = (refl, refl)
told_download k size false true ps qs x y is none all told =
    absurd
    (data_or_refused size x (packet (codes "OKAY") ++ y)
    (told ∙ append_assoc (packet (data_text size)) (packet (codes "OKAY")) y))
told_download k size false false ps qs x y is none all told =
    let zero_long : size ≡ 0 = let le = ltb-false 0 size is in omega (arith, le) in
    (ap (chosen k size false false) (none ∙ sym (none_due size qs zero_long all)), zero_long)

-- one that wants data isn't told what is told without memory
begun_or_refused : {S : Type 0} (k : Kept S) (size : ℕ) (big some : Bool) (ps : List (List ℕ))
    (x y : List ℕ)
    → ltb 0 size ≡ some
    → 0 < cond big 0 size
    → (chosen k size big some ps).reply ++ x ≡ packet (data_text size) ++ y
    → ⊥
begun_or_refused k size true some ps x y is wants told = omega (arith, wants)
begun_or_refused k size false true ps x y is wants told = data_or_refused size x y told
begun_or_refused k size false false ps x y is wants told =
    let le = ltb-false 0 size is in omega (arith, le, wants)

module _ {S : Type 0} (effect : S → Option (List ℕ) → Result Asked BadCommand → Response S)
    (plain : IsPlain effect) where
  -- what a command is told with memory and without
  with_or_not : (e : Response S) (b : Bool) (x y : List ℕ)
      → e.may_want ≡ b
      → (e.may_want ≡ true → length e.text ≤ 256)
      → (e.may_want ≡ true → e.text ≢ codes "FAILout of memory")
      → packet (cond b no_memory e).text ++ x ≡ packet e.text ++ y
      → cond b no_memory e ≡ e
  with_or_not e false x y may short other is = refl
  with_or_not e true x y may short other is =
      absurd
      (other may
      (sym
      (first_text (codes "FAILout of memory") e.text x y (omega arith)
      (let fits = short may in omega (arith, fits)) is)))

  told_effect : (e : Response S) (a b : Bool) (x y : List ℕ)
      → (e.may_want ≡ true → length e.text ≤ 256)
      → (e.may_want ≡ true → e.text ≢ codes "FAILout of memory")
      → packet (unless_refused a e).text ++ x ≡ packet (unless_refused b e).text ++ y
      → unless_refused a e ≡ unless_refused b e
  told_effect e true true x y short other is = refl
  told_effect e false false x y short other is = refl
  told_effect e true false x y short other is = with_or_not e e.may_want x y refl short other is
  told_effect e false true x y short other is =
      sym (with_or_not e e.may_want y x refl short other (sym is))

  told_command : (k : Kept S) (a b : Bool) (asked : Result Asked BadCommand) (x y : List ℕ)
      → packet (unless_refused a (effect k.now k.staged asked)).text ++ x
      ≡ packet (unless_refused b (effect k.now k.staged asked)).text ++ y
      → item_by k (unless_refused a (effect k.now k.staged asked))
      ≡ item_by k (unless_refused b (effect k.now k.staged asked))
  told_command k a b asked x y is =
      ap (item_by k)
      (told_effect (effect k.now k.staged asked) a b x y (plain.short k.now k.staged asked)
      (plain.other k.now k.staged asked) is)

  -- ---- one item

  by_asked : (k : Kept S) (r : Result Asked BadCommand) (ps qs : List (List ℕ)) (x y : List ℕ)
      → Leaves (wanted true r) ps 0
      → Leaves (wanted false r) qs 0
      → (item_asked effect k true ps r).reply ++ x ≡ (item_asked effect k false qs r).reply ++ y
      → (item_asked effect k true ps r ≡ item_asked effect k false qs r) × (wanted false r ≡ 0)
  by_asked k (Ok (Download size)) ps qs x y all all' told =
      told_download k size (ltb most_data size) (ltb 0 size) ps qs x y refl
      (none_due 0 ps refl all) all' told
  by_asked k (Ok BootAndEnd) ps qs x y all all' told =
      (told_command k true false (Ok BootAndEnd) x y told, refl)
  by_asked k (Ok MergeAll) ps qs x y all all' told =
      (told_command k true false (Ok MergeAll) x y told, refl)
  by_asked k (Ok (Getvar variable)) ps qs x y all all' told =
      (told_command k true false (Ok (Getvar variable)) x y told, refl)
  by_asked k (Ok (Do command)) ps qs x y all all' told =
      (told_command k true false (Ok (Do command)) x y told, refl)
  by_asked k (Err bad) ps qs x y all all' told =
      (told_command k true false (Err bad) x y told, refl)

  open_asked : (k : Kept S) (r : Result Asked BadCommand) (ps : List (List ℕ)) (x y : List ℕ)
      → 0 < wanted false r
      → (item_asked effect k true ps r).reply ++ x ≡ (item_begun k r).reply ++ y
      → ⊥
  open_asked k (Ok (Download size)) ps x y wants told =
      begun_or_refused k size (ltb most_data size) (ltb 0 size) ps x y refl wants told
  open_asked k (Ok BootAndEnd) ps x y wants told = omega (arith, wants)
  open_asked k (Ok MergeAll) ps x y wants told = omega (arith, wants)
  open_asked k (Ok (Getvar variable)) ps x y wants told = omega (arith, wants)
  open_asked k (Ok (Do command)) ps x y wants told = omega (arith, wants)
  open_asked k (Err bad) ps x y wants told = omega (arith, wants)

  due_is : (b : Bool) (p : List ℕ) → due_of b p ≡ wanted b (request_of p)
  unfolding due_of
  due_is b p = refl

  item_is : (k : Kept S) (s : Exchange)
      → item_of effect k s ≡ item_asked effect k s.refused s.parts (request_of s.command)
  unfolding item_of
  item_is k s = refl

  open_is : (k : Kept S) (p : List ℕ) → item_open effect k p ≡ item_begun k (request_of p)
  unfolding item_open
  open_is k p = refl

  -- without memory, and with it
  one_way : (k : Kept S) (s t : Exchange) (x y p q : List ℕ)
      → s.refused ≡ true
      → t.refused ≡ false
      → IsExchange s
      → IsExchange t
      → spelled s ++ x ≡ spelled t ++ y
      → (item_of effect k s).reply ++ p ≡ (item_of effect k t).reply ++ q
      → (item_of effect k s ≡ item_of effect k t) × (x ≡ y)
  one_way k s t x y p q without given a b is told =
      let here =
      same_packet s.command t.command (flat_map packet s.parts ++ x)
      (flat_map packet t.parts ++ y) (omega (arith, a.short)) (omega (arith, b.short))
      (sym (append_assoc (packet s.command) (flat_map packet s.parts) x)
      ∙ is
      ∙ append_assoc (packet t.command) (flat_map packet t.parts) y) in
      let r = request_of s.command in
      let mine : item_of effect k s ≡ item_asked effect k true s.parts r =
      item_is k s ∙ ap (λ b. item_asked effect k b s.parts r) without in
      let other : item_of effect k t ≡ item_asked effect k false t.parts r =
      item_is k t
      ∙ (λ i. item_asked effect k (given i) t.parts (request_of (sym here.0 i))) in
      let all : Leaves (wanted true r) s.parts 0 =
      subst (λ (n : ℕ). Leaves n s.parts 0)
      (due_is s.refused s.command ∙ ap (λ b. wanted b r) without) a.all in
      let all' : Leaves (wanted false r) t.parts 0 =
      subst (λ (n : ℕ). Leaves n t.parts 0)
      (due_is t.refused t.command ∙ (λ i. wanted (given i) (request_of (sym here.0 i))))
      b.all in
      let both =
      by_asked k r s.parts t.parts p q all all'
      (ap (λ (m : Item S). m.reply ++ p) (sym mine)
      ∙ told
      ∙ ap (λ (m : Item S). m.reply ++ q) other) in
      let none : s.parts ≡ [] =
      none_due (due_of s.refused s.command) s.parts
      (ap (λ b. due_of b s.command) without ∙ due_refused s.command) a.all in
      let none' : t.parts ≡ [] = none_due (wanted false r) t.parts both.1 all' in (
        mine ∙ both.0 ∙ sym other,
        ap (λ (l : List (List ℕ)). flat_map packet l ++ x) (sym none)
            ∙ here.1
            ∙ ap (λ (l : List (List ℕ)). flat_map packet l ++ y) none',
      )

  -- two exchanges at the same place, of which the same is told
  same_item : (k : Kept S) (s t : Exchange) (x y p q : List ℕ)
      → IsExchange s
      → IsExchange t
      → spelled s ++ x ≡ spelled t ++ y
      → (item_of effect k s).reply ++ p ≡ (item_of effect k t).reply ++ q
      → (item_of effect k s ≡ item_of effect k t) × (x ≡ y)
  same_item k s t x y p q a b is told = ⊎_elim
      (λ without. ⊎_elim
      (λ mem'. alike (without ∙ sym mem'))
      (λ want'. one_way k s t x y p q without want' a b is told)
      (cases_Bool t.refused))
      (λ given. ⊎_elim
      (λ mem'. let both =
      one_way k t s y x q p mem' given b a (sym is) (sym told) in (sym both.0, sym both.1))
      (λ want'. alike (given ∙ sym want'))
      (cases_Bool t.refused))
      (cases_Bool s.refused)
    where
      alike : s.refused ≡ t.refused → (item_of effect k s ≡ item_of effect k t) × (x ≡ y)
      alike flag =
          let both = same_exchange s t x y a b flag is in (ap (item_of effect k) both.0, both.1)

  -- a whole download and one that isn't finished, at the same place
  whole_or_open : (count : ℕ) (k : Kept S) (s : Exchange) (bytes later p q : List ℕ) (end : End)
      (command : List ℕ)
      → IsExchange s
      → bytes ≡ spelled s ++ later
      → IsUnfinished count command bytes end
      → (item_of effect k s).reply ++ p ≡ (item_open effect k command).reply ++ q
      → ⊥
  whole_or_open count k s bytes later p q end command a is u told =
      let here =
      same_packet s.command command (flat_map packet s.parts ++ later)
      (flat_map packet u.parts ++ u.rest) (omega (arith, a.short)) (omega (arith, u.short))
      (sym (append_assoc (packet s.command) (flat_map packet s.parts) later) ∙ sym is ∙ u.is) in
      let wants : 0 < due_of false command =
      leave_some (due_of false command) u.parts u.still u.some u.leaves in
      ⊎_elim
      (λ without.
      let mine : item_of effect k s ≡ item_asked effect k true s.parts (request_of command) =
      item_is k s ∙ (λ i. item_asked effect k (without i) s.parts (request_of (here.0 i))) in
      open_asked k (request_of command) s.parts p q
      (subst (λ (n : ℕ). 0 < n) (due_is false command) wants)
      (ap (λ (m : Item S). m.reply ++ p) (sym mine)
      ∙ told
      ∙ ap (λ (m : Item S). m.reply ++ q) (open_is k command)))
      (λ given.
      all_or_not count (due_of false command) s.parts u.parts u.still later u.rest end
      (due_fits false command)
      (subst (λ (n : ℕ). Leaves n s.parts 0) (λ i. due_of (given i) (here.0 i)) a.all) u.some
      u.leaves u.breaks here.1)
      (cases_Bool s.refused)

module _ {S : Type 0} (machine : Machine S) (plain : IsPlain machine.effect) where
  -- ---- all of them

  take_none : (l : List (Item S)) → take 0 l ≡ []
  take_none [] = refl
  take_none (i ∷ l) = refl

  same_command : (s t : Exchange) (x y : List ℕ)
      → IsExchange s
      → IsExchange t
      → spelled s ++ x ≡ spelled t ++ y
      → s.command ≡ t.command
  same_command s t x y a b is =
      let here =
      same_packet s.command t.command (flat_map packet s.parts ++ x)
      (flat_map packet t.parts ++ y) (omega (arith, a.short)) (omega (arith, b.short))
      (sym (append_assoc (packet s.command) (flat_map packet s.parts) x)
      ∙ is
      ∙ append_assoc (packet t.command) (flat_map packet t.parts) y) in
      here.0

  cancel : (front x y : List ℕ) → front ++ x ≡ front ++ y → x ≡ y
  cancel front x y is =
      sym (drop_at front x (length front) refl)
      ∙ ap (λ (l : List ℕ). drop (length front) l) is
      ∙ drop_at front y (length front) refl

  none_open : (count : ℕ) (bytes : List ℕ) (d : End)
      → Stops count bytes d
      → (k : Kept S) (ts : List Exchange) (v : Option (List ℕ)) (e : End)
      → IsRead count bytes ts v e
      → items_of machine k ts v ≡ []
  none_open count bytes d stops k [] None e read = refl
  none_open count bytes d stops k [] (Some q) e read =
      absurd
      (stop_or_packet count bytes d stops q (flat_map packet read.parts ++ read.rest) read.short
      read.is)
  none_open count bytes d stops k (t ∷ ts) v e read =
      absurd
      (stop_or_packet count bytes d stops t.command (flat_map packet t.parts ++ read.0)
      read.2.short (read.1 ∙ append_assoc (packet t.command) (flat_map packet t.parts) read.0))

  pub told_items : (n count : ℕ) (bytes : List ℕ) (k : Kept S) (ss ts : List Exchange)
      (u v : Option (List ℕ)) (d e : End) (more : List ℕ)
      → IsRead count bytes ss u d
      → IsRead count bytes ts v e
      → joined (items_of machine k ts v) ≡ joined (take n (items_of machine k ss u)) ++ more
      → take n (items_of machine k ss u) ≡ take n (items_of machine k ts v)
  told_items zero count bytes k ss ts u v d e more a b told =
      take_none (items_of machine k ss u) ∙ sym (take_none (items_of machine k ts v))
  told_items (suc n) count bytes k [] ts None v d e more a b told =
      ap (λ (l : List (Item S)). take (suc n) l) (sym (none_open count bytes d a k ts v e b))
  told_items (suc n) count bytes k [] [] (Some p) None d e more a b told =
      absurd (stop_or_packet count bytes e b p (flat_map packet a.parts ++ a.rest) a.short a.is)
  told_items (suc n) count bytes k [] [] (Some p) (Some q) d e more a b told =
      let here =
      same_packet p q (flat_map packet a.parts ++ a.rest) (flat_map packet b.parts ++ b.rest)
      (omega (arith, a.short)) (omega (arith, b.short)) (sym a.is ∙ b.is) in
      ap (λ (l : List ℕ). take (suc n) (open_behind machine k l ∷ [])) here.0
  told_items (suc n) count bytes k [] (t ∷ ts) (Some p) v d e more a b told =
      absurd
      (whole_or_open machine.effect plain count (passed machine k) t bytes b.0
      (joined (items_of machine (item_behind machine k t).last ts v)) (joined (take n []) ++ more)
      d p b.2 b.1 a
      (told ∙ append_assoc (open_behind machine k p).reply (joined (take n [])) more))
  told_items (suc n) count bytes k (s ∷ ss) [] u None d e more a b told =
      absurd
      (stop_or_packet count bytes e b s.command (flat_map packet s.parts ++ a.0) a.2.short
      (a.1 ∙ append_assoc (packet s.command) (flat_map packet s.parts) a.0))
  told_items (suc n) count bytes k (s ∷ ss) [] u (Some q) d e more a b told =
      let rest = joined (take n (items_of machine (item_behind machine k s).last ss u)) in
      absurd
      (whole_or_open machine.effect plain count (passed machine k) s bytes a.0 (rest ++ more) [] e q
      a.2 a.1 b
      (sym (append_assoc (item_behind machine k s).reply rest more) ∙ sym told))
  told_items (suc n) count bytes k (s ∷ ss) (t ∷ ts) u v d e more a b told =
      let rest = joined (take n (items_of machine (item_behind machine k s).last ss u)) in
      let later = joined (items_of machine (item_behind machine k t).last ts v) in
      let told' : (item_behind machine k s).reply ++ (rest ++ more)
      ≡ (item_behind machine k t).reply ++ later =
      sym (append_assoc (item_behind machine k s).reply rest more) ∙ sym told in
      let here =
      same_item machine.effect plain (passed machine k) s t a.0 b.0 (rest ++ more) later a.2 b.2
      (sym a.1 ∙ b.1) told' in
      let left : later ≡ rest ++ more =
      cancel (item_behind machine k t).reply later (rest ++ more)
      (sym told' ∙ ap (λ (m : Item S). m.reply ++ (rest ++ more)) here.0) in
      let last = (item_behind machine k s).last in
      let next : take n (items_of machine last ss u)
      ≡ take n (items_of machine (item_behind machine k t).last ts v) =
      ⊎_elim
      (λ end_s. ⊎_elim
      (λ end_t.
      (λ i. take n
      (items_of machine (here.0 i).last ((end_s.1.0 ∙ sym end_t.1.0) i)
      ((end_s.1.1 ∙ sym end_t.1.1) i))))
      (λ on_t. let is =
      ap ends_session (same_command s t a.0 b.0 a.2 b.2 (sym a.1 ∙ b.1)) in let yes_s =
      end_s.0 in let no_t = on_t.0 in cc)
      b.3)
      (λ on_s. ⊎_elim
      (λ end_t. let is =
      ap ends_session (same_command s t a.0 b.0 a.2 b.2 (sym a.1 ∙ b.1)) in let no_s =
      on_s.0 in let yes_t = end_t.0 in cc)
      (λ on_t.
      told_items n count a.0 last ss ts u v d e more on_s.1
      (subst (λ (l : List ℕ). IsRead count l ts v e) (sym here.1) on_t.1)
      (ap (λ (m : Item S). joined (items_of machine m.last ts v)) here.0 ∙ left)
      ∙ ap (λ (m : Item S). take n (items_of machine m.last ts v)) here.0)
      b.3)
      a.3 in
      λ i. behind k.now (machine.between k.now) (here.0 i) ∷ next i

  pub tells_its_choices : TellsItsChoices machine
  tells_its_choices most refused other input ss ts u v d e first n more a b told =
      by_reads a.first b.first a.reads b.reads
    where
      by_reads : (d e : End)
          → Reads (take most input) ss u d
          → Reads (take most input) ts v e
          → take n (items_of machine first ss u) ≡ take n (items_of machine first ts v)
      by_reads d e (inl x) (inl y) =
          let later : x.later ≡ y.later =
          append_front (take 4 (take most input)) x.later y.later (sym x.whole ∙ y.whole) in
          told_items n (length (take most input)) x.later first ss ts u v d e more x.read
          (subst (λ (l : List ℕ). IsRead (length (take most input)) l ts v e) (sym later)
          y.read) told
      by_reads d e (inl x) (inr y) = absurd (hello_or_not (take most input) e x.hello y.2)
      by_reads d e (inr x) (inl y) = absurd (hello_or_not (take most input) d y.hello x.2)
      by_reads d e (inr x) (inr y) =
          λ i. take n (items_of machine first ((x.0 ∙ sym y.0) i) ((x.1 ∙ sym y.1) i))
