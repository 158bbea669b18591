-- Request 6 of document 02 as definitions. Beyond the letters of `format`: w are the lent words, i
-- a directory, d what is lent of it, j an image of a list. A directory's type is called its kind.
pub mod Pick
pub mod Picking
pub mod Examples
