-- Words that are too few or too many for a command, and feeds that are not.
use Rattle.std.proofs.Common.{◌≡◌, ◌≤◌, ◌<◌, ◌&&◌, ℕ, true, false, List, [], ◌∷◌, length, refl, sym, arith}
use Rattle.std.specs.Prelude.{nat_le}
use Rattle.std.specs.List.{list_all}
use Rattle.std.proofs.lemmas.Bool.Decides.{nat_tests}
use Rattle.commands.specs.Words.{is_name, are_feeds, accepts_session, accepts_produce, accepts_make}

pub short_session : (ws : List (List ℕ)) → length ws < 5 → false ≡ accepts_session ws
short_session [] l = refl
short_session (a ∷ []) l = refl
short_session (a ∷ b ∷ []) l = refl
short_session (a ∷ b ∷ c ∷ []) l = refl
short_session (a ∷ b ∷ c ∷ d ∷ []) l = refl
short_session (a ∷ b ∷ c ∷ d ∷ e ∷ ws) l = absurd (omega arith)

pub long_session : (ws : List (List ℕ)) → 6 ≤ length ws → false ≡ accepts_session ws
long_session [] l = refl
long_session (a ∷ []) l = refl
long_session (a ∷ b ∷ []) l = refl
long_session (a ∷ b ∷ c ∷ []) l = refl
long_session (a ∷ b ∷ c ∷ d ∷ []) l = refl
long_session (a ∷ b ∷ c ∷ d ∷ e ∷ []) l = absurd (omega arith)
long_session (a ∷ b ∷ c ∷ d ∷ e ∷ f ∷ ws) l = refl

pub short_produce : (ws : List (List ℕ)) → length ws < 5 → false ≡ accepts_produce ws
short_produce [] l = refl
short_produce (a ∷ []) l = refl
short_produce (a ∷ b ∷ []) l = refl
short_produce (a ∷ b ∷ c ∷ []) l = refl
short_produce (a ∷ b ∷ c ∷ d ∷ []) l = refl
short_produce (a ∷ b ∷ c ∷ d ∷ e ∷ ws) l = absurd (omega arith)

pub short_make : (ws : List (List ℕ)) → length ws < 4 → false ≡ accepts_make ws
short_make [] l = refl
short_make (a ∷ []) l = refl
short_make (a ∷ b ∷ []) l = refl
short_make (a ∷ b ∷ c ∷ []) l = refl
short_make (a ∷ b ∷ c ∷ d ∷ ws) l = absurd (omega arith)

pub long_make : (ws : List (List ℕ)) → 5 ≤ length ws → false ≡ accepts_make ws
long_make [] l = refl
long_make (a ∷ []) l = refl
long_make (a ∷ b ∷ []) l = refl
long_make (a ∷ b ∷ c ∷ []) l = refl
long_make (a ∷ b ∷ c ∷ d ∷ []) l = absurd (omega arith)
long_make (a ∷ b ∷ c ∷ d ∷ e ∷ ws) l = refl

pub feeds_within : (ws : List (List ℕ)) → 1 ≤ length ws → length ws ≤ 64 → are_feeds ws ≡ list_all is_name ws
feeds_within ws low high = grind (arith, nat_tests, low, high)
