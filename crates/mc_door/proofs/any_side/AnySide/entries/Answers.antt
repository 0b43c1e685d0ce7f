use Rattle.mc_door.specs.Roles.{role_of}
use Rattle.mc_door.proofs.AnySideLists.{entries_by}
use Rattle.mc_door.proofs.any_side.AnySide.entries.Goals as goal

pub returns-in-One-clause-listed : goal.returns-in-One-clause-listed
returns-in-One-clause-listed c = entries_by c.args.self.now _ (role_of c.entries.new.self) c.args.words.now c.entries.new.words c.entries.result c.in-One.is c.entries.ensures.listed

pub returns-in-Two-clause-listed : goal.returns-in-Two-clause-listed
returns-in-Two-clause-listed c = entries_by c.args.self.now _ (role_of c.entries-in-Two.new.self) c.args.words.now c.entries-in-Two.new.words c.entries-in-Two.result c.in-Two.is c.entries-in-Two.ensures.listed

pub returns-in-Three-clause-listed : goal.returns-in-Three-clause-listed
returns-in-Three-clause-listed c = entries_by c.args.self.now _ (role_of c.entries-in-Three.new.self) c.args.words.now c.entries-in-Three.new.words c.entries-in-Three.result c.in-Three.is c.entries-in-Three.ensures.listed

pub returns-in-Four-clause-listed : goal.returns-in-Four-clause-listed
returns-in-Four-clause-listed c = entries_by c.args.self.now _ (role_of c.entries-in-Four.new.self) c.args.words.now c.entries-in-Four.new.words c.entries-in-Four.result c.in-Four.is c.entries-in-Four.ensures.listed

pub returns-in-Five-clause-listed : goal.returns-in-Five-clause-listed
returns-in-Five-clause-listed c = entries_by c.args.self.now _ (role_of c.entries-in-Five.new.self) c.args.words.now c.entries-in-Five.new.words c.entries-in-Five.result c.in-Five.is c.entries-in-Five.ensures.listed

pub returns-in-Six-clause-listed : goal.returns-in-Six-clause-listed
returns-in-Six-clause-listed c = entries_by c.args.self.now _ (role_of c.entries-in-Six.new.self) c.args.words.now c.entries-in-Six.new.words c.entries-in-Six.result c.in-Six.is c.entries-in-Six.ensures.listed

pub returns-in-Seven-clause-listed : goal.returns-in-Seven-clause-listed
returns-in-Seven-clause-listed c = entries_by c.args.self.now _ (role_of c.entries-in-Seven.new.self) c.args.words.now c.entries-in-Seven.new.words c.entries-in-Seven.result c.in-Seven.is c.entries-in-Seven.ensures.listed

pub returns-in-Eight-clause-listed : goal.returns-in-Eight-clause-listed
returns-in-Eight-clause-listed c = entries_by c.args.self.now _ (role_of c.entries-in-Eight.new.self) c.args.words.now c.entries-in-Eight.new.words c.entries-in-Eight.result c.in-Eight.is c.entries-in-Eight.ensures.listed
