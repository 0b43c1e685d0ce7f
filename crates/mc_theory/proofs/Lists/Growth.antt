-- How lists of acts and of readings grow.
use Rattle.std.proofs.Common.{ℕ, ◌≤◌, [], ◌∷◌, length, sym, subst}
use Rattle.mc_theory.specs.Growth.{LawfulGrows, StatesFollow, ReadingsGrow, ReadingsStay}
use Rattle.mc_theory.specs.Readings.{IsWordOf}
use Rattle.mc_theory.specs.States.{State}
use Rattle.mc_theory.proofs.Lists.Fronts.{front_all, front_append, front_old, lawful_none, lawful_push, state_append, state_none, state_push}
use Rattle.mc_theory.proofs.Lists.Readings.{read_push, rise_le, rise_on, rise_push}

pub lawful_grows : (V : ℕ) → LawfulGrows V
lawful_grows V = record { none = lawful_none V; more = lawful_push V }

pub states_follow : (V : ℕ) → StatesFollow V
states_follow V = record { none = state_none V; more = state_push V; whole = front_all V; all = state_append V; old = front_old V }

pub readings_stay : (V : ℕ) → ReadingsStay V
readings_stay V sh acts more [] d up a = tt
readings_stay V sh acts more (r ∷ rs) d up a =
    let fits : r.front ≤ length acts = rise_le r.front rs (length acts) up.1 in (
      subst (λ (s : State V). IsWordOf V sh s.words r.access r.word) (sym (front_append V sh acts more r.front fits)) a.0,
      readings_stay V sh acts more rs r.front up.1 a.1,
    )

pub readings_grow : (V : ℕ) → ReadingsGrow V
readings_grow V = record {
  later = λ f g h rs. rise_on f rs g h;
  more = λ f g rs r. rise_push f rs r g;
  read = read_push V;
}
