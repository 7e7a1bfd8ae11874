-- The order in which places are taken out.
use Rattle.std.specs.Prelude.{ℕ, ◌≡◌, Bool, false, List, [], ◌∷◌, nat_eq, nat_lt, ◌||◌, ◌&&◌, All, pos}
use Rattle.cc_base.specs.Inequality.{Inequality}
use Rattle.cc_base.specs.Pass.{slack, pairs, better}
use Rattle.cc_base.specs.declared.forms.Multiple.{Multiple}
use Rattle.linear_solver.specs.declared.slack.Rank.{Rank}
use Rattle.linear_solver.specs.declared.slack.Best.{Best}

unfoldable pub rank : ℕ → List Inequality → Rank
rank x l = record { slack = slack x l; pairs = pairs x l; place = x }

-- by slack, then by pairs, then by number
unfoldable pub before : Rank → Rank → Bool
before a b = nat_lt a.slack b.slack || (nat_eq a.slack b.slack && (nat_lt a.pairs b.pairs || (nat_eq a.pairs b.pairs && nat_lt a.place b.place)))

-- one term of the place
abbrev pub just : ℕ → List Multiple
just x = record { place = x; coefficient = pos 0 } ∷ []

-- the best place's rank is known, and none of those seen is better
pub record Known (l : List Inequality) (b : Best) : Type 0 where
  pub rank_is : b.rank ≡ rank b.rank.place l
  pub none_better : All (λ y. better l y b.rank.place ≡ false) b.seen.items
