-- What the lines of the two policies, of what is denied and of the questions say.
use Rattle.std.specs.Prelude.{◌≡◌, ℕ, ◌<◌, ◌↔◌, List, [], ◌∷◌, All, Contains, length, map, slice_index}
use Rattle.uses.specs.declared.text.Row.{Row}
use Rattle.uses.specs.declared.access.Answer.{Answer}
use Rattle.uses.specs.declared.access.Answer.TheVariants.{Allowed, Lacking, Unknown}
use Rattle.uses.specs.Policies.{Rights, Has, IsLeastMissing}

-- two numbers: a role and a right that there are
abbrev pub IsGrant : ℕ → ℕ → List ℕ → Type 0
IsGrant roles rights numbers =
    (length numbers ≡ 2) × (slice_index numbers 0 < roles) × (slice_index numbers 1 < rights)

-- a role has a right exactly where one of the rows is these two
abbrev pub HasGrants : List Row → Rights → Type 0
HasGrants rows policy =
    (role right : ℕ)
    → Has policy role right ↔ Contains (map (λ (row : Row). row.numbers.items) rows) (role ∷ right ∷ [])

-- a role has a right exactly where it had it and none of the rows is these two
abbrev pub IsWithout : List Row → Rights → Rights → Type 0
IsWithout rows old new =
    (role right : ℕ) → Has new role right
    ↔ (Has old role right × ¬ (Contains (map (λ (row : Row). row.numbers.items) rows) (role ∷ right ∷ [])))

-- there is a role
abbrev pub IsQuestion : List ℕ → Type 0
IsQuestion numbers = 0 < length numbers

-- the role has each of these rights; or there is the role, and each right, and this is the least one that it lacks; or
-- there is no such role or right
abbrev pub IsAnswer : Rights → ℕ → List ℕ → Answer → Type 0
IsAnswer policy role rights Allowed =
    (role < length policy.roles) × ((right : ℕ) → Contains rights right → Has policy role right)
IsAnswer policy role rights (Lacking right) =
    (role < length policy.roles) × All (λ asked. asked < policy.rights) rights
    × IsLeastMissing policy role (Contains rights) right
IsAnswer policy role rights Unknown = ¬ ((role < length policy.roles) × All (λ asked. asked < policy.rights) rights)
