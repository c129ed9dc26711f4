-- How runs of calls that only hear join.
use Rattle.std.proofs.Common.{◌≡◌, inr, ℕ, ◌<◌, ◌≤◌, List, [], ◌∷◌, ◌++◌, length, take, drop, refl}
use Rattle.std.proofs.Common.{sym, ◌∙◌, ap, subst, arith, append_assoc, length-append, length-take}
use Rattle.std.proofs.Common.{take-append-drop}
use Rattle.std.proofs.lemmas.List.{append-nil, take_at}
use Rattle.std.proofs.lemmas.List.Elements.{All-append, All-nil}
use Rattle.std.specs.List.{All, flat_map}
use Rattle.std.specs.Int.{w64, from_be_bytes}
use Rattle.vab_disk.specs.Disk.{Nothing, Hearing}
use Rattle.vab_disk.specs.Port.{heard_then}
use Rattle.vab_disk.specs.declared.disk.Disk.{Ghosts}
use Rattle.vab_disk.proofs.CallLaws.{fewer_then}
use Rattle.vab_disk.proofs.Moments.{adds_none, adds_still}
use Rattle.vab_exchanges.specs.Hearing.{HearsWhere, Wants, IsHeardFor, Listens}
use Rattle.vab_exchanges.specs.Session.{packet, length_at, Leaves, IsCutShort, IsAwaited}

-- ---- hearings

All-map : {X : Type 0} (P Q : X → Type 0) (xs : List X)
    → ((x : X) → P x → Q x)
    → All P xs
    → All Q xs
All-map P Q xs widen all = λ k d within. widen _ (all k d within)

pub hears_none : (P : Hearing → Type 0) (l : List Hearing) → HearsWhere P l l
hears_none P l = record { since = []; behind = sym (append-nil l); each = All-nil P }

pub hears_same : (P : Hearing → Type 0) (l m : List Hearing) → m ≡ l → HearsWhere P l m
hears_same P l m same = record { since = []; behind = same ∙ sym (append-nil l); each = All-nil P }

pub hears_one : (P : Hearing → Type 0) (l m : List Hearing) (told left : List ℕ)
    → m ≡ heard_then l told left
    → P (record { told = told; input_left = left })
    → HearsWhere P l m
hears_one P l m told left is one =
    record { since = record { told = told; input_left = left } ∷ []; behind = is; each = only }
  where
    only : All P (record { told = told; input_left = left } ∷ [])
    only = grind arith

pub hears_then : (P : Hearing → Type 0) (a b c : List Hearing)
    → HearsWhere P a b
    → HearsWhere P b c
    → HearsWhere P a c
hears_then P a b c x y = record {
  since = x.since ++ y.since;
  behind =
      y.behind
      ∙ ap (λ (l : List Hearing). l ++ y.since) x.behind
      ∙ append_assoc a x.since y.since;
  each = All-append P x.since y.since x.each y.each;
}

pub hears_wider : (P Q : Hearing → Type 0) (a b : List Hearing)
    → ((h : Hearing) → P h → Q h)
    → HearsWhere P a b
    → HearsWhere Q a b
hears_wider P Q a b widen x =
    record { since = x.since; behind = x.behind; each = All-map P Q x.since widen x.each }

-- the same, with what was told and what was heard before by other names
pub hears_at : (told told' bytes : List ℕ) (F : List ℕ → Type 0) (a a' b : List Hearing)
    → told' ≡ told
    → a' ≡ a
    → HearsWhere (IsHeardFor told' bytes F) a' b
    → HearsWhere (IsHeardFor told bytes F) a b
hears_at told told' bytes F a a' b same same' hears =
    subst (λ (l : List Hearing). HearsWhere (IsHeardFor told bytes F) l b) same'
    (subst (λ (l : List ℕ). HearsWhere (IsHeardFor l bytes F) a' b) same hears)

-- nothing more is heard
pub hears_still : (P : Hearing → Type 0) (a b c : List Hearing)
    → c ≡ b
    → HearsWhere P a b
    → HearsWhere P a c
hears_still P a b c same hears =
    subst (λ (l : List Hearing). HearsWhere P a l) (sym same) hears

-- what is wanted of bytes behind others
pub wants_behind : (front bytes all : List ℕ) (F G : List ℕ → Type 0) (left : List ℕ)
    → all ≡ front ++ bytes
    → ((came : List ℕ) → F came → G (front ++ came))
    → Wants bytes F left
    → Wants all G left
wants_behind front bytes all F G left is widen w = record {
  came = front ++ w.came;
  is =
      is
      ∙ ap (λ (l : List ℕ). front ++ l) w.is
      ∙ sym (append_assoc front w.came left);
  too_few = widen w.came w.too_few;
}

-- ---- calls

module _ {D : Type 0} (g : Ghosts D) where
  pub listens_none : (bytes : List ℕ) (F : List ℕ → Type 0) (d : D) → Listens g bytes F d d
  listens_none bytes F d = record {
    size = refl;
    seen = λ t. refl;
    crash = λ t. record { keeps = λ s b held. held; no_more = λ s b held. held };
    told = λ t. refl;
    heard = λ t. hears_none (IsHeardFor (g.told d) bytes F) (g.heard d);
    time = λ t. adds_none g.moment g.outcomes d Nothing;
    counts = record { disk = omega arith; source = omega arith; sink = omega arith };
  }

  pub listens_wider : (bytes all : List ℕ) (F G : List ℕ → Type 0) (a b : D)
      → (g.is_modelled → (left : List ℕ) → Wants bytes F left → Wants all G left)
      → Listens g bytes F a b
      → Listens g all G a b
  listens_wider bytes all F G a b widen x = record {
    size = x.size;
    seen = x.seen;
    crash = x.crash;
    told = x.told;
    heard = λ t.
        hears_wider
        (IsHeardFor (g.told a) bytes F)
        (IsHeardFor (g.told a) all G)
        (g.heard a) (g.heard b)
        (λ h is. record { told_then = is.told_then; wants = widen t h.input_left is.wants })
        (x.heard t);
    time = x.time;
    counts = x.counts;
  }

  pub listens_then : (bytes all : List ℕ) (F G : List ℕ → Type 0) (a b c : D)
      → Listens g all G a b
      → Listens g bytes F b c
      → (g.is_modelled → (left : List ℕ) → Wants bytes F left → Wants all G left)
      → Listens g all G a c
  listens_then bytes all F G a b c x y widen = record {
    size = y.size ∙ x.size;
    seen = λ t. y.seen t ∙ x.seen t;
    crash = λ t. record {
      keeps = λ s w held. (y.crash t).keeps s w ((x.crash t).keeps s w held);
      no_more = λ s w held. (x.crash t).no_more s w ((y.crash t).no_more s w held);
    };
    told = λ t. y.told t ∙ x.told t;
    heard = λ t.
        hears_then (IsHeardFor (g.told a) all G) (g.heard a) (g.heard b) (g.heard c)
        (x.heard t)
        (hears_wider
        (IsHeardFor (g.told b) bytes F)
        (IsHeardFor (g.told a) all G)
        (g.heard b) (g.heard c)
        (λ h is. record {
          told_then = is.told_then ∙ x.told t;
          wants = widen t h.input_left is.wants;
        })
        (y.heard t));
    time = λ t. adds_still g.moment g.outcomes a b c Nothing (x.time t) (y.time t);
    counts = fewer_then (g.faults a) (g.faults b) (g.faults c) x.counts y.counts;
  }

-- ---- what is too few

-- all the bytes, in the session and beyond it, are those that are held and those that are left
pub all_there : (unread left : List ℕ) (room : ℕ)
    → (unread ++ take room left) ++ drop room left ≡ unread ++ left
all_there unread left room =
    append_assoc unread (take room left) (drop room left)
    ∙ ap (λ (l : List ℕ). unread ++ l) (take-append-drop room left)

-- the bytes behind some that were read of what the session may have
pub all_behind : (front rest rest' beyond beyond' : List ℕ)
    → rest ≡ front ++ rest'
    → beyond' ≡ beyond
    → rest ++ beyond ≡ front ++ (rest' ++ beyond')
all_behind front rest rest' beyond beyond' is same =
    (λ i. is i ++ sym same i) ∙ append_assoc front rest' beyond'

-- so many bytes are taken off the front
pub taken_off : (n : ℕ) (rest rest' : List ℕ) → rest' ≡ drop n rest → rest ≡ take n rest ++ rest'
taken_off n rest rest' is =
    sym (take-append-drop n rest) ∙ ap (λ (l : List ℕ). take n rest ++ l) (sym is)

-- the length has come, and not the whole packet
pub short_behind : (most n : ℕ) (rest came : List ℕ)
    → 8 ≤ length rest
    → n ≡ length_at rest
    → n ≤ most
    → length came < n
    → IsCutShort most (take 8 rest ++ came)
short_behind most n rest came eight is fits few =
    let long : length (take 8 rest) ≡ 8 = omega (arith, length-take 8 rest, eight) in
    let front : take 8 (take 8 rest ++ came) ≡ take 8 rest = take_at (take 8 rest) came 8 long in
    let same : length_at (take 8 rest ++ came) ≡ n = ap (from_be_bytes w64) front ∙ sym is in
    inr (
      omega (arith, same, fits),
      omega (arith, length-append (take 8 rest) came, long, same, few),
    )

-- some of the data have come, and no whole packet behind them
pub awaited_behind : (due still : ℕ) (parts : List (List ℕ)) (came : List ℕ)
    → 0 < still
    → Leaves due parts still
    → IsCutShort still came
    → IsAwaited due (flat_map packet parts ++ came)
awaited_behind due still parts came some leaves cut = record {
  parts = parts;
  rest = came;
  still = still;
  is = refl;
  some = some;
  leaves = leaves;
  cut = cut;
}
