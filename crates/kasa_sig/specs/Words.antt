-- Trees whose names are names of their text.
use Rattle.std.specs.Prelude.{ℕ, ◌≤◌, List, Option, Some, None, length}
use Rattle.std.specs.List.{AllByRecursion}
use Rattle.kasa_graph.specs.Signature.{IsName}
use Rattle.kasa_syntax.specs.declared.tokens.Span.{Span}
use Rattle.kasa_syntax.specs.declared.agents.StateWord.{StateWord}
use Rattle.kasa_syntax.specs.declared.agents.StateWord.TheVariants.{Hash, Named}
use Rattle.kasa_syntax.specs.declared.agents.StateText.{StateText}
use Rattle.kasa_syntax.specs.declared.agents.LinkWord.{LinkWord}
use Rattle.kasa_syntax.specs.declared.agents.LinkWord.TheVariants.{Partner}
use Rattle.kasa_syntax.specs.declared.agents.LinkText.{LinkText}
use Rattle.kasa_syntax.specs.declared.agents.SiteText.{SiteText}
use Rattle.kasa_syntax.specs.declared.agents.AgentText.{AgentText}
use Rattle.kasa_syntax.specs.declared.decls.SiteDecl.{SiteDecl}
use Rattle.kasa_syntax.specs.declared.decls.AgentDecl.{AgentDecl}
use Rattle.kasa_syntax.specs.declared.decls.Item.{Item}
use Rattle.kasa_syntax.specs.declared.decls.Item.TheVariants.{Absent, Agent as item_agent}
use Rattle.kasa_syntax.specs.declared.decls.Form.{Form}
use Rattle.kasa_syntax.specs.declared.decls.Form.TheVariants.{Edit, Arrow}
use Rattle.kasa_syntax.specs.declared.decls.Decl.{Decl}
use Rattle.kasa_syntax.specs.declared.decls.Decl.TheVariants.{Agent as decl_agent, Init, Add, Rule}
use Rattle.kasa_sig.specs.Mentions.{word}

-- the span lies within the text, and the word there may be the name of a type, a site or a state
pub record IsNameSpan (text : List ℕ) (s : Span) : Type 0 where
  pub forward : s.start ≤ s.end
  pub within : s.end ≤ length text
  pub is_name : IsName (word text s)

-- ---- agent declarations

pub record SiteDeclHasNames (text : List ℕ) (d : SiteDecl) : Type 0 where
  pub name : IsNameSpan text d.name
  pub states : AllByRecursion (IsNameSpan text) d.states

pub record AgentDeclHasNames (text : List ℕ) (d : AgentDecl) : Type 0 where
  pub name : IsNameSpan text d.name
  pub sites : AllByRecursion (SiteDeclHasNames text) d.sites

-- ---- inits, additions and rules

abbrev pub StateWordHasNames : List ℕ → StateWord → Type 0
StateWordHasNames text Hash = Unit {0}
StateWordHasNames text (Named s) = IsNameSpan text s

abbrev pub LinkWordHasNames : List ℕ → LinkWord → Type 0
LinkWordHasNames text (Partner s b) = IsNameSpan text s × IsNameSpan text b
LinkWordHasNames text _ = Unit {0}

abbrev pub IfGiven : {X : Type 0} → (X → Type 0) → Option X → Type 0
IfGiven P None = Unit {0}
IfGiven P (Some x) = P x

abbrev pub StatesHaveNames : List ℕ → Option StateText → Type 0
StatesHaveNames text None = Unit {0}
StatesHaveNames text (Some t) = StateWordHasNames text t.left × IfGiven (StateWordHasNames text) t.right

abbrev pub LinksHaveNames : List ℕ → Option LinkText → Type 0
LinksHaveNames text None = Unit {0}
LinksHaveNames text (Some t) = LinkWordHasNames text t.left × IfGiven (LinkWordHasNames text) t.right

pub record SiteHasNames (text : List ℕ) (s : SiteText) : Type 0 where
  pub name : IsNameSpan text s.name
  pub states : StatesHaveNames text s.state
  pub links : LinksHaveNames text s.link

pub record AgentHasNames (text : List ℕ) (a : AgentText) : Type 0 where
  pub name : IsNameSpan text a.name
  pub sites : AllByRecursion (SiteHasNames text) a.sites

abbrev pub ItemHasNames : List ℕ → Item → Type 0
ItemHasNames text Absent = Unit {0}
ItemHasNames text (item_agent a) = AgentHasNames text a

abbrev pub FormHasNames : List ℕ → Form → Type 0
FormHasNames text (Edit items) = AllByRecursion (ItemHasNames text) items
FormHasNames text (Arrow left right both) = AllByRecursion (ItemHasNames text) left × AllByRecursion (ItemHasNames text) right

abbrev pub DeclHasNames : List ℕ → Decl → Type 0
DeclHasNames text (decl_agent d) = AgentDeclHasNames text d
DeclHasNames text (Init d) = AllByRecursion (AgentHasNames text) d.agents
DeclHasNames text (Add d) = AllByRecursion (AgentHasNames text) d.agents
DeclHasNames text (Rule d) = FormHasNames text d.form
