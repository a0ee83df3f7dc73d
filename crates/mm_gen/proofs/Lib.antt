pub mod Numbers
pub mod PageLists
pub mod Images
pub mod SlotTexts
